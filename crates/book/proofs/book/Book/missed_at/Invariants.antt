use Rattle.std.proofs.Common.{◌≡◌, ◌*◌, ◌≤◌}
use Rattle.tally.specs.Numbered.{total}
use Rattle.book.specs.Records.{hour_of}
use Rattle.book.proofs.book.Book.missed_at.Given as goal

abbrev pub invariant-loop-buyer : goal.invariant-loop-buyer
invariant-loop-buyer l = record {
  sum : l.all ≡ total ((hour_of l.«record»).missed l.seller) l.buyer;
  small : l.all ≤ l.buyer * 65535;
}
