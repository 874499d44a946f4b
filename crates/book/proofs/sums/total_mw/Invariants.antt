use Rattle.std.proofs.Common.{◌≡◌, ◌*◌, ◌≤◌}
use Rattle.tally.specs.Numbered.{total}
use Rattle.book.specs.Records.{at}
use Rattle.book.proofs.sums.total_mw.Given as goal

abbrev pub invariant-loop-place : goal.invariant-loop-place
invariant-loop-place l = record {
  sum : l.sum ≡ total (at 0 l.figures) l.place;
  small : l.sum ≤ l.place * 65535;
}
