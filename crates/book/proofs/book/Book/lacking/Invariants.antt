use Rattle.std.proofs.Common.{◌≡◌, ℕ, ◌<◌, suc, length, get_or}
use Rattle.tariff.specs.Answers.{granted, in_order}
use Rattle.tally.specs.MakeWhole.{sharing_answer}
use Rattle.tally.specs.Settlement.{make_whole}
use Rattle.book.specs.Books.{state_of}
use Rattle.book.specs.PricedDays.{prices_in}
use Rattle.book.proofs.book.Book.lacking.Given as goal

abbrev pub invariant-loop-place : goal.invariant-loop-place
invariant-loop-place l = record {
  places : length l.amounts ≡ 12;
  passed : in_order (sharing_answer (state_of l.self) (prices_in l.prices) l.most l.hours.block) l.place ≡ granted;
  amounts : (seller : ℕ) → seller < l.place → get_or l.amounts seller 0
      ≡ make_whole (state_of l.self) (prices_in l.prices) l.hours.block (suc seller);
}
