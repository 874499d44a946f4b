use Rattle.tally.proofs.laws.accepted_set_ups_proper.Goals as goal
use Rattle.tally.proofs.SetUps.{accepted_set_ups_proper_lem}

pub returns : goal.returns
returns c = accepted_set_ups_proper_lem
