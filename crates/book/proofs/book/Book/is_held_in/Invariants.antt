use Rattle.std.proofs.Common.{◌≡◌}
use Rattle.tally.specs.Numbered.{total}
use Rattle.book.specs.Books.{state_of}
use Rattle.book.proofs.Held.{held_inside}
use Rattle.book.proofs.book.Book.is_held_in.Given as goal

abbrev pub invariant-loop-place : goal.invariant-loop-place
invariant-loop-place l = total (held_inside (state_of l.self) l.block) l.place ≡ 0
