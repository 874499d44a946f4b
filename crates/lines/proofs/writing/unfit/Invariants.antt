use Rattle.std.proofs.Common.{take}
use Rattle.lines.specs.Fits.{FitAll}
use Rattle.lines.proofs.writing.unfit.Given as goal

abbrev pub invariant-loop-i : goal.invariant-loop-i
invariant-loop-i l = FitAll (take l.i l.kinds) (take l.i l.values)
