use Rattle.tally.proofs.laws.handed_within_limits.Goals as goal
use Rattle.tally.proofs.Divisible.{handed_within_limits_lem}

pub returns : goal.returns
returns c = handed_within_limits_lem
