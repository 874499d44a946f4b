use Rattle.std.proofs.Common.{◌≡◌, ℕ, ◌*◌, ◌≤◌, ℤ, nat_abs}
use Rattle.tally.specs.Numbered.{total_z}
use Rattle.book.specs.Books.{state_of}
use Rattle.book.proofs.BlockLoops.{of_block}
use Rattle.book.proofs.book.Book.block_total.Given as goal

abbrev pub invariant-loop-place : goal.invariant-loop-place
invariant-loop-place g l = record {
  sum : (f : ℕ → ℤ)
      → ((hour : ℕ) (n : ℤ) → goal.F-post g l.figure hour n → n ≡ f hour)
      → l.total ≡ total_z (of_block (state_of l.self) l.block f) l.place;
  size : nat_abs l.total ≤ l.place * 4000000000000;
}
