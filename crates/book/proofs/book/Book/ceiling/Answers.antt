use Rattle.std.proofs.Common.{◌∙◌}
use Rattle.book.specs.Records.{set_up_in}
use Rattle.book.proofs.Ceilings.{ceiling_same}
use Rattle.book.proofs.book.Book.ceiling.Goals as goal

pub returns-clause-value : goal.returns-clause-value
returns-clause-value c =
    c.ceiling_of.ensures.value ∙ ceiling_same (set_up_in c.args.self.now.pool) _ _ c.month_misses.ensures.value
