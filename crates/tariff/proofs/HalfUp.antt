-- Rounding goes to the nearest whole number, halves up. Assumes nothing.
use Rattle.std.proofs.Common.{◌≡◌, ℕ, zero, suc, ◌+◌, ◌*◌, ◌/◌, ◌<◌, ℤ, pos, negsuc, ◌+ℤ◌, ◌*ℤ◌, neg_ℤ, ◌≤ℤ◌}
use Rattle.std.proofs.Common.{◌<ℤ◌, refl, mod-lt, suc-mul, add-mul, div-add-mod', zero-mul, arith}
use Rattle.std.proofs.lemmas.Int.{ints}
use Rattle.std.specs.Int.{int_div_euclid}
use Rattle.tariff.specs.Rounding.{RoundsHalfUp}

neg_mul : (q k : ℕ) → neg_ℤ (pos q) *ℤ pos k ≡ neg_ℤ (pos (q * k))
neg_mul zero k = rw zero-mul
neg_mul (suc q) k = refl

-- a quotient whose remainder is not negative
whole_part : (m : ℤ) (k : ℕ) → 0 < k → ((int_div_euclid m (pos k) *ℤ pos k) ≤ℤ m) × (m <ℤ ((int_div_euclid m (pos k) +ℤ pos 1) *ℤ pos k))
whole_part (pos a) k h =
    let e = div-add-mod' a k in
    let l = mod-lt a h in
    let more = add-mul (a / k) 1 k in
    (omega (arith, ints), omega (arith, ints))
whole_part (negsuc a) k h =
    let e = div-add-mod' a k in
    let l = mod-lt a h in
    let more : suc (a / k) * k ≡ a / k * k + k = suc-mul (a / k) k in
    let up : negsuc (a / k) +ℤ pos 1 ≡ neg_ℤ (pos (a / k)) = omega (arith, ints) in
    (omega (arith, ints), rw (up, neg_mul (a / k) k) (omega (arith, ints)))

pub half_up : RoundsHalfUp
half_up n d h = whole_part (n +ℤ n +ℤ pos d) (d + d) (omega arith)
