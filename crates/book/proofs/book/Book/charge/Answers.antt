use Rattle.std.proofs.Common.{rules}
use Rattle.tally.specs.Charges.{charge}
use Rattle.book.proofs.book.Book.charge.Goals as goal

pub returns-clause-value : goal.returns-clause-value
unfolding charge
returns-clause-value c = search rules
