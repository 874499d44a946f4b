use Rattle.tally.proofs.laws.allotted_hours_stand.Goals as goal
use Rattle.tally.proofs.Standings.{allotted_hours_stand_lem}

pub returns : goal.returns
returns c = allotted_hours_stand_lem
