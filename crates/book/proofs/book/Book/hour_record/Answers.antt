use Rattle.std.proofs.Common.{◌<◌, length, rules}
use Rattle.book.proofs.Facts.{laid_of}
use Rattle.book.proofs.book.Book.hour_record.Goals as goal

pub returns-clause-laid : goal.returns-clause-laid
returns-clause-laid c =
    let l : c.place.result < length c.args.self.now.day.hours = search rules in
    laid_of c.args.self.now c.place.result _ l
