-- A figure behind a hyphen.
use Rattle.std.proofs.Common.{◌≡◌, ℕ, suc, ◌-◌, ◌^◌, ◌<◌, List, ◌∷◌, length, get_or, take, drop, ℤ, pos, negsuc}
use Rattle.std.proofs.Common.{decimal, sym, ap, ◌∙◌, arith}
use Rattle.std.proofs.lemmas.Fmt.{decimal_injective}
use Rattle.std.proofs.lemmas.Slice.{first_rest}
use Rattle.text.specs.Figures.{Short, figure_text}
use Rattle.text.proofs.Sizes.{digit}

module _ (bytes : List ℕ) (some : 0 < length bytes) (hyphen : get_or bytes 0 0 ≡ 45) where
  abbrev behind : List ℕ
  behind = take (length bytes - 1) (drop 1 bytes)

  split : bytes ≡ 45 ∷ behind
  split = first_rest bytes 0 some ∙ ap (λ byte. byte ∷ behind) hyphen

  no_digits : (size : ℕ) → size < 10 ^ 12 → bytes ≡ decimal size → ⊥
  no_digits size small e = let d = digit bytes size small e 0 some in omega arith

  tail : (size : ℕ) → bytes ≡ 45 ∷ decimal size → behind ≡ decimal size
  tail size e = let s = split in cc

  pub no_figure : ((size : ℕ) → size < 10 ^ 12 → behind ≡ decimal size → ⊥)
      → (value : ℤ) → Short value → bytes ≡ figure_text value → ⊥
  no_figure none (pos size) short e = no_digits size short e
  no_figure none (negsuc less) short e = none (suc less) short (tail (suc less) e)

  pub no_figure_at_zero : behind ≡ decimal 0 → (value : ℤ) → Short value → bytes ≡ figure_text value → ⊥
  no_figure_at_zero zero (pos size) short e = no_digits size short e
  no_figure_at_zero zero (negsuc less) short e =
      let same = decimal_injective 0 (suc less) (omega arith) (omega arith) (sym zero ∙ tail (suc less) e) in
      omega arith
