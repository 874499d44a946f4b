use Rattle.tally.proofs.worked.worked_charges_hold.Goals as goal
use Rattle.tally.proofs.ChargesWorked.{worked_charges}

pub returns : goal.returns
returns c = worked_charges
