use Rattle.std.proofs.Common.{◌≡◌, ℕ, ◌+◌, ◌<◌, get_or, sum_by}
use Rattle.std.specs.List.{range_with_len}
use Rattle.rules.specs.LargestRemainder.{remainder, whole_part}
use Rattle.rules.proofs.largest.whole_parts.Given as goal

abbrev pub invariant-loop-i : goal.invariant-loop-i
invariant-loop-i l =
    let total = l.division.total in
    let claims = l.division.claims.now in
    record {
      wholes : (k : ℕ) → k < l.i → get_or l.shares k 0 ≡ whole_part total claims k;
      rests : (k : ℕ) → k < l.i → get_or l.remainders k 0 ≡ remainder total claims k;
      left : l.left + sum_by (whole_part total claims) (range_with_len 0 l.i) ≡ total;
    }
