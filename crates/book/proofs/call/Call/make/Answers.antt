use Rattle.std.proofs.Common.{rules}
use Rattle.book.proofs.Entering.{on_slices}
use Rattle.book.proofs.call.Call.make.Goals as goal

pub returns-clause-enters : goal.returns-clause-enters
returns-clause-enters g c =
    on_slices c.enter-self.ensures.enters c.new-heavy.ensures.entries c.new-light.ensures.entries (search rules) (search rules)
