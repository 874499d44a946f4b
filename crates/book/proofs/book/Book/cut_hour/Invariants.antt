use Rattle.std.proofs.Common.{◌≡◌, ℕ, ◌<◌, ◌≤◌, length}
use Rattle.tally.specs.Charges.{cut_charge}
use Rattle.book.specs.Books.{state_of}
use Rattle.book.specs.PricedDays.{prices_in}
use Rattle.book.specs.Records.{at}
use Rattle.book.proofs.Cutting.{left_within}
use Rattle.book.proofs.book.Book.cut_hour.Given as goal

abbrev pub invariant-loop-buyer : goal.invariant-loop-buyer
invariant-loop-buyer l = record {
  room : l.left ≡ left_within (state_of l.self) (prices_in l.prices) l.seller l.hour l.buyer;
  cuts : (k : ℕ) → 0 < k → k ≤ l.buyer
      → at 0 l.cuts k ≡ cut_charge (state_of l.self) (prices_in l.prices) l.seller l.hour k;
  others : (k : ℕ) → l.buyer < k → at 0 l.cuts k ≡ 0;
  small : (k : ℕ) → at 0 l.cuts k ≤ 4000000000000;
  length : length l.cuts ≡ 12;
}
