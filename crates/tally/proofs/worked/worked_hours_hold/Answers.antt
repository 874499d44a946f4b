use Rattle.tally.proofs.worked.worked_hours_hold.Goals as goal
use Rattle.tally.proofs.HoursWorked.{worked_hours}

pub returns : goal.returns
returns c = worked_hours
