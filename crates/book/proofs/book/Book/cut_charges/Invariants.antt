use Rattle.std.proofs.Common.{◌≡◌, ℕ, suc, ◌<◌, ◌≤◌, length}
use Rattle.tally.specs.Charges.{cut_charge}
use Rattle.tally.specs.States.{IsParty}
use Rattle.book.specs.Books.{state_of}
use Rattle.book.specs.CutTables.{left_before, SmallCuts}
use Rattle.book.specs.Records.{in_row}
use Rattle.book.specs.PricedDays.{prices_in}
use Rattle.book.proofs.book.Book.cut_charges.Given as goal

abbrev pub invariant-loop-hour : goal.invariant-loop-hour
invariant-loop-hour l = record {
  room : l.left ≡ left_before (state_of l.self) (prices_in l.prices) l.seller (suc l.hour);
  cuts : (hour : ℕ) → 0 < hour → hour ≤ l.hour → (buyer : ℕ) → IsParty (state_of l.self) buyer
      → in_row 0 l.rows hour buyer ≡ cut_charge (state_of l.self) (prices_in l.prices) l.seller hour buyer;
  others : (hour buyer : ℕ) → l.self.pool.parties < buyer → in_row 0 l.rows hour buyer ≡ 0;
  small : SmallCuts l.rows;
  length : length l.rows ≡ 24;
}
