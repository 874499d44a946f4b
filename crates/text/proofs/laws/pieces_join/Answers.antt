use Rattle.text.proofs.Parting.{cut_whole}
use Rattle.text.proofs.laws.pieces_join.Goals as goal

pub returns : goal.returns
returns c = cut_whole
