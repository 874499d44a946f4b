use Rattle.tariff.proofs.HalfUp.{half_up}
use Rattle.tariff.proofs.laws.rounds_half_up.Goals as goal

pub returns : goal.returns
returns c = half_up
