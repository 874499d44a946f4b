use Rattle.book.specs.Records.{at}
use Rattle.book.proofs.Filling.{Filled}
use Rattle.book.proofs.widths.narrowed.Given as goal

abbrev pub invariant-loop-place : goal.invariant-loop-place
invariant-loop-place l = Filled 0 l.narrow (at 0 l.figures) l.place
