use Rattle.std.proofs.Common.{◌+◌}
use Rattle.book.specs.Records.{at}
use Rattle.book.proofs.Filling.{Filled}
use Rattle.book.proofs.sums.sums.Given as goal

abbrev pub invariant-loop-place : goal.invariant-loop-place
invariant-loop-place l = Filled 0 l.sums (λ party. at 0 l.some party + at 0 l.others party) l.place
