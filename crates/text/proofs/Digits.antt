-- How many digits a size has.
use Rattle.std.proofs.Common.{◌≡◌, ℕ, zero, suc, ◌+◌, ◌*◌, ◌/◌, ◌%◌, ◌^◌, ◌<◌, ◌≤◌, length, decimal, ap, ◌∙◌, arith}
use native.Mathlib.Nat.{pow-succ'}
use Rattle.std.proofs.lemmas.List.{length_push}
use Rattle.std.proofs.lemmas.Fmt.{decimal_digit, decimal_step, length-decimal-le}

pub few_digits : (size : ℕ) → size ≤ 2 ^ 63 → length (decimal size) ≤ 19
few_digits size h = length-decimal-le 19 size (omega arith) (omega arith) (omega arith)

pub digits_more : (size : ℕ) → 10 ≤ size → size < 2 ^ 64 → length (decimal size) ≡ length (decimal (size / 10)) + 1
digits_more size l f = ap length (decimal_step size l f) ∙ length_push (decimal (size / 10)) (48 + size % 10)

pub count_digits : (power size : ℕ) → 10 ^ power ≤ size → size < 10 * 10 ^ power → size < 2 ^ 64
    → length (decimal size) ≡ power + 1
count_digits zero size l h f = ap length (decimal_digit size (omega arith))
count_digits (suc power) size l h f =
    let ten : 10 ^ suc power ≡ 10 * 10 ^ power = pow-succ' 10 power in
    let some : 10 ^ 0 ≤ 10 ^ power = omega arith in
    let more = count_digits power (size / 10) (omega arith) (omega arith) (omega arith) in
    omega (arith, more, digits_more size (omega arith) f)
