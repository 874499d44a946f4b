use Rattle.tally.proofs.worked.worked_day_holds.Goals as goal
use Rattle.tally.proofs.DayWorked.{worked_day}

pub returns : goal.returns
returns c = worked_day
