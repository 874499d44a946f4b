use Rattle.tally.proofs.laws.unmoved_rules_keep_one_meaning.Goals as goal
use Rattle.tally.proofs.Turning.{unmoved_rules_keep_one_meaning_lem}

pub returns : goal.returns
returns c = unmoved_rules_keep_one_meaning_lem
