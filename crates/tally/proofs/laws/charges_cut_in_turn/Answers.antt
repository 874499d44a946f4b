use Rattle.tally.proofs.laws.charges_cut_in_turn.Goals as goal
use Rattle.tally.proofs.Cutting.{charges_cut_in_turn_lem}

pub returns : goal.returns
returns c = charges_cut_in_turn_lem
