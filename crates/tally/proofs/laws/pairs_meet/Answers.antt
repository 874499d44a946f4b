use Rattle.tally.proofs.laws.pairs_meet.Goals as goal
use Rattle.tally.proofs.Meeting.{pairs_meet_lem}

pub returns : goal.returns
returns c = pairs_meet_lem
