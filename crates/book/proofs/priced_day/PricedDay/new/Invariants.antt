use Rattle.std.proofs.Common.{◌≡◌, ℕ, suc, ◌<◌, length, get_or}
use Rattle.tariff.specs.declared.prices.HourPrices.{HourPrices}
use Rattle.book.specs.HourPricing.{priced_at}
use Rattle.book.proofs.priced_day.PricedDay.new.Given as goal

abbrev pub invariant-loop-place : goal.invariant-loop-place
invariant-loop-place l = record {
  places : length l.hours ≡ 24;
  priced : (k : ℕ) → k < l.place → (none : HourPrices)
      → get_or l.hours k none ≡ priced_at l.kind l.heavy l.light l.real_time l.factors (suc k);
}
