use Rattle.std.proofs.Common.{◌≡◌, ℕ, ◌+◌, ◌<◌, ◌≤◌, nat_lt, if◌then◌else◌, length, get_or}
use Rattle.rules.specs.LargestRemainder.{rank_of}
use Rattle.rules.proofs.largest.give_units.Given as goal

abbrev pub invariant-loop-i : goal.invariant-loop-i
invariant-loop-i l =
    ((k : ℕ) → k < l.i → get_or l.shares k 0 ≡ get_or l.initial.shares k 0
    + (if nat_lt (rank_of (λ j. get_or l.remainders j 0) (length l.remainders) k) l.units then 1 else 0))
    × ((k : ℕ) → l.i ≤ k → get_or l.shares k 0 ≡ get_or l.initial.shares k 0)
