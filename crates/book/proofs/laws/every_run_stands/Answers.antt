use Rattle.book.proofs.Standing.{run_stands}
use Rattle.book.proofs.laws.every_run_stands.Goals as goal

pub returns : goal.returns
returns c = run_stands
