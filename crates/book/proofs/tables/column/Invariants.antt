use Rattle.std.proofs.Common.{◌≡◌, ℕ, suc, ◌<◌, length, get_or}
use Rattle.book.specs.Records.{by_seller}
use Rattle.book.proofs.tables.column.Given as goal

abbrev pub invariant-loop-buyer : goal.invariant-loop-buyer
invariant-loop-buyer l = record {
  has : (buyer : ℕ) → buyer < l.buyer → get_or l.column buyer 0 ≡ by_seller 0 l.table l.seller (suc buyer);
  length : length l.column ≡ 12;
}
