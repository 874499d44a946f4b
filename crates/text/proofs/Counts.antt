-- How many pieces bytes have. Assumes nothing.
use Rattle.std.proofs.Common.{◌≡◌, ℕ, zero, suc, ◌≤◌, List, [], ◌∷◌, length, take, drop, refl, sym, ap, ◌∙◌, inl, inr}
use Rattle.std.proofs.Common.{◌==◌, ◌+◌, ◌-◌, ◌≢◌, cond, eqb, add-one, arith}
use Rattle.std.proofs.lemmas.Bool.{cases_eq, eq-eqb, ne_eqb}
use Rattle.std.proofs.lemmas.List.{take_rest}
use Rattle.std.proofs.lemmas.List.Recursion.{is_count_by}
use Rattle.std.specs.Bool.{MatchBool}
use Rattle.std.specs.List.{count_by}
use Rattle.text.specs.Pieces.{onto, cut, cut_from}
use Rattle.text.proofs.Joins.{Some, cut_some}

onto_count : (byte : ℕ) (pieces : List (List ℕ)) → Some pieces → length (onto byte pieces) ≡ length pieces
onto_count byte [] some = absurd (omega (arith, ap length some.is))
onto_count byte (piece ∷ pieces) some = refl

module _ (stop : ℕ) where
  behind_first : List ℕ → ℕ
  behind_first bytes = length (cut stop bytes) - 1

  one_more : (byte : ℕ) (bytes : List ℕ)
      → behind_first (byte ∷ bytes) ≡ cond (byte == stop) (1 + behind_first bytes) (behind_first bytes)
  unfolding behind_first
  one_more byte bytes =
      let some = ap length (cut_some stop bytes).is in
      elim (cases_eq byte stop) [
        | inl e ↦ rw (eq-eqb byte stop e) (omega (arith, some))
        | inr e ↦ rw (ne_eqb byte stop e, onto_count byte (cut stop bytes) (cut_some stop bytes)) refl
      ]

  -- one more than there are stops
  piece_count : (bytes : List ℕ) → length (cut stop bytes) ≡ suc (count_by (λ byte. byte == stop) bytes)
  unfolding behind_first
  piece_count bytes =
      let counted = is_count_by behind_first (λ byte. byte == stop) refl one_more bytes in
      omega (arith, counted, ap length (cut_some stop bytes).is)

  pub cut_behind : (bytes : List ℕ) (place : ℕ) → place ≤ length bytes → cut_from stop bytes place ≡ cut stop (drop place bytes)
  cut_behind bytes zero within = refl
  cut_behind [] (suc place) within = absurd (omega arith)
  cut_behind (byte ∷ bytes) (suc place) within = cut_behind bytes place (omega arith)

  -- so many pieces from a place on, and none past the end
  pub pieces_behind : (bytes : List ℕ) (place tabs : ℕ) → place ≤ length bytes
      → tabs ≡ count_by (λ byte. byte == stop) (take (length bytes - place) (drop place bytes))
      → length (cut_from stop bytes place) ≡ tabs + 1
  pieces_behind bytes place tabs within counted =
      let all : tabs ≡ count_by (λ byte. byte == stop) (drop place bytes) =
      counted ∙ ap (count_by (λ byte. byte == stop)) (take_rest bytes place) in
      rw add-one (ap length (cut_behind bytes place within) ∙ (piece_count (drop place bytes) ∙ ap suc (sym all)))

-- a number that is compared with another one
pub compared : (n other count : ℕ) → n ≡ other → MatchBool (eqb count other) (n ≡ count) (n ≢ count)
compared n other count same =
    elim (cases_eq count other) [
      | inl e ↦ rw (eq-eqb count other e) (same ∙ sym e)
      | inr e ↦ rw (ne_eqb count other e) (λ both. e (sym both ∙ same))
    ]
