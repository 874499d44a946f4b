use Rattle.lines.proofs.FigureTexts.{no_figure}
use Rattle.lines.proofs.reading.spelling.figure_of.Goals as goal

pub returns-in_default : goal.returns-in_default
returns-in_default c = no_figure c.args.field c.in_default.not-Figure c.requires
