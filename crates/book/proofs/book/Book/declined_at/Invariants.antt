use Rattle.std.proofs.Common.{◌≡◌, ◌*◌, ◌≤◌}
use Rattle.tally.specs.Numbered.{total}
use Rattle.tally.specs.Pairs.{declined}
use Rattle.book.specs.Records.{hour_of}
use Rattle.book.proofs.book.Book.declined_at.Given as goal

abbrev pub invariant-loop-place : goal.invariant-loop-place
invariant-loop-place l = record {
  sum : l.total ≡ total (declined (hour_of l.«record») l.seller) l.place;
  small : l.total ≤ l.place * 65535;
}
