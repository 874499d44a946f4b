use Rattle.tally.proofs.laws.years_fit.Goals as goal
use Rattle.tally.proofs.YearSizes.{years_fit_lem}

pub returns : goal.returns
returns c = years_fit_lem
