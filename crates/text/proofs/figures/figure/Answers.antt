use Rattle.std.proofs.Common.{rules}
use Rattle.text.proofs.Signs.{no_figure, no_figure_at_zero}
use Rattle.text.proofs.figures.figure.Goals as goal

pub returns-in_err-size-in-45 : goal.returns-in_err-size-in-45
returns-in_err-size-in-45 c =
    rw c.from_residual.ensures (no_figure c.args.bytes.now (search rules) (search rules) c.in_err-size-in-45.ensures)

pub returns-in-0 : goal.returns-in-0
returns-in-0 c = no_figure_at_zero c.args.bytes.now (search rules) (search rules) (search rules)
