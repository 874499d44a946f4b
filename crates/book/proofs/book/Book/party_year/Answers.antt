use Rattle.std.proofs.Common.{suc}
use Rattle.book.proofs.Misses.{months_small}
use Rattle.book.proofs.book.Book.party_year.Goals as goal

pub ceiling_of-requires : goal.ceiling_of-requires
ceiling_of-requires c = months_small c.args.self.now (suc c.place-3.result)
