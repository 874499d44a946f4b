use Rattle.book.proofs.Blanks.{Cleared}
use Rattle.book.proofs.blank.clear.Given as goal

abbrev pub invariant-loop-place : goal.invariant-loop-place
invariant-loop-place l = Cleared l.fn.hours l.hours l.place
