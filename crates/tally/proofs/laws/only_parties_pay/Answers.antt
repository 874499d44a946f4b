use Rattle.tally.proofs.laws.only_parties_pay.Goals as goal
use Rattle.tally.proofs.Absent.{only_parties_pay_lem}

pub returns : goal.returns
returns c = only_parties_pay_lem
