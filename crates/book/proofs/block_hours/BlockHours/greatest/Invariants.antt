use Rattle.std.proofs.Common.{◌≡◌, ℕ, suc}
use Rattle.tally.specs.Numbered.{greatest}
use Rattle.book.specs.Records.{at}
use Rattle.book.proofs.block_hours.BlockHours.greatest.Given as goal

abbrev pub invariant-loop-index : goal.invariant-loop-index
invariant-loop-index g l =
    (f : ℕ → ℕ) → ((hour : ℕ) (n : ℕ) → goal.F-post g l.figure hour n → n ≡ f hour)
    → l.greatest ≡ greatest (λ k. f (suc (at 0 l.self.places k))) l.index
