use Rattle.tally.proofs.laws.misses_within_deployments.Goals as goal
use Rattle.tally.proofs.Meeting.{misses_within_deployments_lem}

pub returns : goal.returns
returns c = misses_within_deployments_lem
