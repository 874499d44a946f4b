use Rattle.std.proofs.Common.{◌≡◌, ℕ, suc, ◌<◌, [], length, get_or}
use Rattle.book.specs.Records.{by_seller}
use Rattle.book.proofs.tables.turned.Given as goal

abbrev pub invariant-loop-seller : goal.invariant-loop-seller
invariant-loop-seller l = record {
  has : (seller : ℕ) → seller < l.seller → (buyer : ℕ) → buyer < 12
      → get_or (get_or l.rows seller []) buyer 0 ≡ by_seller 0 l.table (suc seller) (suc buyer);
  length : length l.rows ≡ 12;
}
