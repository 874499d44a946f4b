use Rattle.std.proofs.Common.{◌≡◌, ◌*◌, ◌≤◌, []}
use Rattle.tally.specs.Numbered.{total}
use Rattle.book.specs.Records.{at}
use Rattle.book.proofs.book.Book.day_charges.Given as goal

abbrev pub invariant-loop-hour : goal.invariant-loop-hour
invariant-loop-hour l = record {
  sum : l.all ≡ total (λ hour. total (at 0 (at [] l.rows hour)) l.self.pool.parties) l.hour;
  small : l.all ≤ l.hour * 48000000000000;
}
