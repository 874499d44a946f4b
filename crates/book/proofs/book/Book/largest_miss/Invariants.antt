use Rattle.std.proofs.Common.{◌≡◌, ◌≤◌}
use Rattle.tally.specs.Charges.{missed_at}
use Rattle.tally.specs.Numbered.{greatest}
use Rattle.book.specs.Books.{state_of}
use Rattle.book.proofs.book.Book.largest_miss.Given as goal

abbrev pub invariant-loop-place : goal.invariant-loop-place
invariant-loop-place l = record {
  most : l.largest ≡ greatest (missed_at (state_of l.self) l.seller) l.place;
  small : l.largest ≤ 10000;
}
