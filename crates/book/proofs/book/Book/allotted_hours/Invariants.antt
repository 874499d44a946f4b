use Rattle.std.proofs.Common.{◌≡◌, ℕ, ◌<◌, ◌≤◌, length, slice_index}
use Rattle.book.specs.AllottedHours.{ComesTo}
use Rattle.book.specs.Books.{state_of}
use Rattle.book.proofs.book.Book.allotted_hours.Given as goal

abbrev pub invariant-loop-place : goal.invariant-loop-place
invariant-loop-place l = record {
  long : length l.places ≡ 24;
  few : l.count ≤ l.place;
  known : (k : ℕ) → slice_index l.places k < 24;
  comes : ComesTo (state_of l.self) l.block l.places l.count l.place;
}
