use Rattle.std.proofs.Common.{pos, arith}
use Rattle.lines.specs.declared.shape.Kind.TheVariants as kind
use Rattle.lines.specs.declared.value.Value.TheVariants as value
use Rattle.lines.proofs.Fitting.{fit_more, unfit_at}
use Rattle.lines.proofs.writing.unfit.Goals as goal

pub returns-then-not-fits : goal.returns-then-not-fits
returns-then-not-fits c =
    unfit_at c.args.kinds.now c.args.values.now c.loop-i.i _ kind.Figure (value.Figure (pos 0))
    (omega arith) (omega arith) (omega arith) c.loop-i.invariant c.if-not-fits.ensures

pub loop-i-preserved : goal.loop-i-preserved
loop-i-preserved c =
    fit_more c.args.kinds.now c.args.values.now c.loop-i.i kind.Figure (value.Figure (pos 0))
    (omega arith) (omega arith) c.loop-i.invariant c.if-not-fits.ensures
