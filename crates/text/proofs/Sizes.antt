-- What the digits of a size are like, and that digits without a leading 0 are those of their value.
use Rattle.std.proofs.Common.{◌≡◌, ℕ, ◌+◌, ◌-◌, ◌*◌, ◌^◌, ◌<◌, ◌≤◌, List, length, get_or, take, decimal, sym, ap, inl}
use Rattle.std.proofs.Common.{inr, arith}
use Rattle.std.specs.Str.Parse.{digits_value, AllDigits}
use Rattle.std.specs.Int.{IsInRange}
use Rattle.std.specs.Char.{digit_value}
use Rattle.std.proofs.lemmas.Int.Digits.{digits_value_more, digits_more}
use Rattle.std.proofs.lemmas.Fmt.{decimal_is_IsNumeral, decimal_nonempty, length-decimal-le, first_decimal}
use Rattle.std.proofs.lemmas.Fmt.{decimal-digits_value, decimal_digit}
use Rattle.std.proofs.lemmas.Str.Parse.{IsNumeralModel, numerals_by_value, tells_digits, digit_at, digits_value_short}
use Rattle.std.proofs.lemmas.List.{take_all, length-take}
use Rattle.std.proofs.lemmas.Bool.{cases_lt}

own : IsNumeralModel (AllDigits 10) (digits_value 10)
own = numerals_by_value (AllDigits 10) tells_digits

digit_is : (byte : ℕ) → IsInRange 48 57 byte → digit_value byte ≡ byte - 48
digit_is byte h = grind arith

module _ (bytes : List ℕ) (size : ℕ) (small : size < 10 ^ 12) (e : bytes ≡ decimal size) where
  wide : size < 2 ^ 64
  wide = omega arith

  pub some : 0 < length bytes
  some = rw e (decimal_nonempty size wide)

  pub short : length bytes ≤ 12
  short = rw e (length-decimal-le 12 size (omega arith) small wide)

  pub digit : (i : ℕ) → i < length bytes → IsInRange 48 57 (get_or bytes i 0)
  digit i h = digit_at bytes i (rw e (decimal_is_IsNumeral size wide).0.1) h

  pub no_zero : get_or bytes 0 0 ≡ 48 → length bytes ≡ 1
  no_zero z =
      elim (cases_lt 0 size) [
        | inl h ↦ (let q : 48 < get_or bytes 0 0 = rw e (first_decimal size h wide) in omega arith)
        | inr h ↦ (let m : size ≡ 0 = omega arith in rw (e, m) (ap length (decimal_digit 0 (omega arith))))
      ]

-- one digit more
pub value_on : (bytes : List ℕ) (i size digit : ℕ)
    → i < length bytes → IsInRange 48 57 (get_or bytes i 0) → digit ≡ get_or bytes i 0 - 48
    → AllDigits 10 (take i bytes) × (size ≡ digits_value 10 (take i bytes))
    → AllDigits 10 (take (i + 1) bytes) × (size * 10 + digit ≡ digits_value 10 (take (i + 1) bytes))
value_on bytes i size digit h d e p =
    let k = digit_is (get_or bytes i 0) d in
    let v = digits_value_more 10 bytes i h in
    let q : digit_value (get_or bytes i 0) < 10 = omega arith in
    (digits_more 10 bytes i h p.0 q, omega (arith, v, p.1))

pub value_small : (bytes : List ℕ) (i size : ℕ) → i ≤ length bytes → i ≤ 12
    → AllDigits 10 (take i bytes) × (size ≡ digits_value 10 (take i bytes)) → size < 10 ^ 12
value_small bytes i size h l p = rw p.1 (digits_value_short own (take i bytes) 12 p.0 (simp length-take (omega arith)))

-- the whole
pub whole : (bytes : List ℕ) (i size : ℕ)
    → length bytes ≤ i → i ≤ 12 → 0 < length bytes → (get_or bytes 0 0 ≡ 48 → length bytes ≡ 1)
    → AllDigits 10 (take i bytes) × (size ≡ digits_value 10 (take i bytes)) → (size < 10 ^ 12) × (bytes ≡ decimal size)
whole bytes i size h l s z p =
    let t = take_all i bytes h in
    let d : AllDigits 10 bytes = rw t at p.0 in
    let e : size ≡ digits_value 10 bytes = rw t at p.1 in
    let b : size < 10 ^ 12 = rw e (digits_value_short own bytes 12 d (omega arith)) in
    let w : digits_value 10 bytes < 2 ^ 64 = omega arith in
    (b, rw e (sym (decimal-digits_value own bytes d s z w)))
