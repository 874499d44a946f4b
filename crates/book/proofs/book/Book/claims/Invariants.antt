use Rattle.std.proofs.Common.{◌≡◌, ℕ, suc, ◌<◌, length, get_or}
use Rattle.tally.specs.MakeWhole.{largest_pair}
use Rattle.book.specs.Books.{state_of}
use Rattle.book.proofs.book.Book.claims.Given as goal

abbrev pub invariant-loop-place : goal.invariant-loop-place
invariant-loop-place l = record {
  places : length l.claims ≡ 12;
  figures : (k : ℕ) → k < l.place
      → get_or l.claims k 0 ≡ largest_pair (state_of l.self) l.hours.block l.seller (suc k);
}
