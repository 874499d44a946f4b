use Rattle.tally.proofs.worked.worked_refusals_hold.Goals as goal
use Rattle.tally.proofs.RefusalsWorked.{worked_refusals}

pub returns : goal.returns
returns c = worked_refusals
