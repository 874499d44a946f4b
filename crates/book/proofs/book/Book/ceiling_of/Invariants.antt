use Rattle.std.proofs.Common.{◌≡◌}
use Rattle.tally.specs.Numbered.{greatest, total}
use Rattle.book.specs.Records.{at}
use Rattle.book.proofs.book.Book.ceiling_of.Given as goal

abbrev pub invariant-loop-miss : goal.invariant-loop-miss
invariant-loop-miss l = record {
  most : l.largest ≡ greatest (at 0 l.misses) l.miss-index;
  sum : l.all ≡ total (at 0 l.misses) l.miss-index;
}
