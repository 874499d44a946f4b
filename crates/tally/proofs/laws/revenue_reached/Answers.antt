use Rattle.tally.proofs.laws.revenue_reached.Goals as goal
use Rattle.tally.proofs.Revenue.{revenue_reached_lem}

pub returns : goal.returns
returns c = revenue_reached_lem
