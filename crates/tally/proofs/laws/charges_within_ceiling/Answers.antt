use Rattle.tally.proofs.laws.charges_within_ceiling.Goals as goal
use Rattle.tally.proofs.Charging.{charges_within_ceiling_lem}

pub returns : goal.returns
returns c = charges_within_ceiling_lem
