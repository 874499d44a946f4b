use Rattle.std.proofs.Common.{◌≡◌, ◌*◌, ◌≤◌}
use Rattle.tally.specs.Numbered.{total}
use Rattle.book.specs.Records.{at}
use Rattle.book.proofs.Stretches.{Rows}
use Rattle.book.proofs.laying.lay.Given as goal

abbrev pub invariant-loop-place : goal.invariant-loop-place
invariant-loop-place l = record {
  start : l.start ≡ total (at 0 l.requests) l.place;
  small : l.start ≤ 65535 * l.place;
  rows : Rows l.rows (at 0 l.holdings) (at 0 l.requests) l.place;
}
