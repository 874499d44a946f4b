-- What is lacking, as it is worked out in 64 bits. Assumes nothing.
use Rattle.std.proofs.Common.{◌≡◌, ◌≤◌, ℤ, pos, negsuc, ◌-ℤ◌, nat_abs, w64, to_z, of_z, arith}
use Rattle.std.proofs.lemmas.Int.{ints, clamps}
use Rattle.std.specs.Int.{int_max}
use Rattle.tally.specs.Numbered.{positive_part}

pub differences_kept : (r s k : ℤ) → nat_abs r ≤ 96000000000000 → nat_abs s ≤ 2304000000000000 → nat_abs k ≤ 192000000000000
    → to_z w64 (of_z w64
    (to_z w64 (of_z w64 (to_z w64 (of_z w64 r) -ℤ to_z w64 (of_z w64 s))) -ℤ to_z w64 (of_z w64 k)))
    ≡ r -ℤ s -ℤ k
differences_kept r s k a b d = omega (arith, ints)

pub size_above_zero : (z : ℤ) → nat_abs (int_max z (pos 0)) ≡ positive_part z
size_above_zero (pos n) = omega (arith, ints, clamps)
size_above_zero (negsuc n) = omega (arith, ints, clamps)
