use Rattle.tally.proofs.laws.dues_fit.Goals as goal
use Rattle.tally.proofs.DueSizes.{dues_fit_lem}

pub returns : goal.returns
returns c = dues_fit_lem
