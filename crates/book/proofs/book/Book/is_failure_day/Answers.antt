use Rattle.std.proofs.Common.{ltb, ap, ◌∙◌}
use Rattle.book.specs.Books.{state_of}
use Rattle.book.proofs.Misses.{failure_day_by}
use Rattle.book.proofs.book.Book.is_failure_day.Goals as goal

pub returns : goal.returns
returns c = ap (ltb 0) c.largest_miss.ensures.value ∙ failure_day_by (state_of c.args.self.now) c.args.seller
