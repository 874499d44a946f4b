use Rattle.std.proofs.Common.{◌≡◌, ℕ, suc, ◌*◌, ◌≤◌, ℤ, nat_abs}
use Rattle.tally.specs.Numbered.{total_z}
use Rattle.book.specs.Records.{at}
use Rattle.book.proofs.block_hours.BlockHours.total.Given as goal

abbrev pub invariant-loop-index : goal.invariant-loop-index
invariant-loop-index g l = record {
  sum : (f : ℕ → ℤ)
      → ((hour : ℕ) (n : ℤ) → goal.F-post g l.figure hour n → n ≡ f hour)
      → l.total ≡ total_z (λ k. f (suc (at 0 l.self.places k))) l.index;
  size : nat_abs l.total ≤ l.index * 4000000000000;
}
