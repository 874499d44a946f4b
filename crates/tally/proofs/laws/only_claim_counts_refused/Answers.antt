use Rattle.tally.proofs.laws.only_claim_counts_refused.Goals as goal
use Rattle.tally.proofs.Divisible.{only_claim_counts_refused_lem}

pub returns : goal.returns
returns c = only_claim_counts_refused_lem
