use Rattle.tally.proofs.laws.ceiling_never_falls.Goals as goal
use Rattle.tally.proofs.Ceilings.{ceiling_never_falls_lem}

pub returns : goal.returns
returns c = ceiling_never_falls_lem
