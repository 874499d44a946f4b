use Rattle.std.proofs.Common.{◌≡◌, ◌*◌, ◌≤◌}
use Rattle.tally.specs.Numbered.{total}
use Rattle.book.specs.Records.{at}
use Rattle.book.proofs.Filling.{Filled}
use Rattle.book.proofs.Stretches.{stretch}
use Rattle.book.proofs.laying.lay_buyer.Given as goal

abbrev pub invariant-loop-place : goal.invariant-loop-place
invariant-loop-place l = record {
  start : l.first ≡ total (at 0 l.holdings) l.place;
  small : l.first ≤ 65535 * l.place;
  filled : Filled 0 l.pairs (stretch (at 0 l.holdings) l.start l.end) l.place;
}
