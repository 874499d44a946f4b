use Rattle.std.proofs.Common.{arith}
use Rattle.std.proofs.lemmas.Grind.{common_steps}
use Rattle.book.proofs.Misses.{failure_days_small}
use Rattle.book.proofs.book.Book.failure_days.Goals as goal

pub overflow_add-result : goal.overflow_add-result
overflow_add-result c = let small = failure_days_small c.args.self.now c.args.seller in grind
    (arith, common_steps)
