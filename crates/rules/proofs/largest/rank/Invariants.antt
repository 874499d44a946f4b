use Rattle.std.proofs.Common.{◌≡◌, ◌≤◌, get_or}
use Rattle.rules.specs.LargestRemainder.{rank_of}
use Rattle.rules.proofs.largest.rank.Given as goal

abbrev pub invariant-loop-j : goal.invariant-loop-j
invariant-loop-j l = (l.count ≡ rank_of (λ k. get_or l.remainders k 0) l.j l.i) × (l.count ≤ l.j)
