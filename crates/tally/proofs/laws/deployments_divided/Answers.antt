use Rattle.tally.proofs.laws.deployments_divided.Goals as goal
use Rattle.tally.proofs.Meeting.{deployments_divided_lem}

pub returns : goal.returns
returns c = deployments_divided_lem
