use Rattle.rules.proofs.LargestFirst.{largest_first}
use Rattle.rules.proofs.laws.units_to_largest.Goals as goal

pub returns : goal.returns
returns c = largest_first
