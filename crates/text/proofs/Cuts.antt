-- Bytes from a place on have a piece and what follows it, or no piece.
use Rattle.std.proofs.Common.{◌≡◌, ℕ, zero, suc, ◌+◌, ◌-◌, ◌<◌, ◌≤◌, List, [], ◌∷◌, length, take, drop, sym}
use Rattle.std.proofs.Common.{refl, ap, ◌∙◌, inl, inr, add-one, arith}
use Rattle.std.proofs.lemmas.Bool.{cases_lt, cases_eq, eq-eqb, ne_eqb}
use Rattle.text.specs.Pieces.{onto, cut, cut_from, end_in}
use Rattle.text.proofs.Ends.{end_past}

module _ (stop : ℕ) where
  pub none_past : (bytes : List ℕ) (place : ℕ) → length bytes < place → cut_from stop bytes place ≡ []
  none_past bytes zero h = absurd (omega arith)
  none_past [] (suc place) h = refl
  none_past (byte ∷ bytes) (suc place) h = none_past bytes place (omega arith)

  at_end : (bytes : List ℕ) (place : ℕ) → place ≡ length bytes → cut_from stop bytes place ≡ [] ∷ []
  at_end [] zero h = refl
  at_end [] (suc place) h = absurd (omega arith)
  at_end (byte ∷ bytes) zero h = absurd (omega arith)
  at_end (byte ∷ bytes) (suc place) h = at_end bytes place (omega arith)

  first : (byte : ℕ) (bytes : List ℕ) → let all = byte ∷ bytes in let end = end_in stop all 0 in
      cut stop all ≡ take end all ∷ cut_from stop all (suc end)
  first byte [] =
      elim (cases_eq byte stop) [
        | inl e ↦ rw (eq-eqb byte stop e) refl
        | inr e ↦ rw (ne_eqb byte stop e) refl
      ]
  first byte (next ∷ bytes) =
      elim (cases_eq byte stop) [
        | inl e ↦ rw (eq-eqb byte stop e) refl
        | inr e ↦ rw (ne_eqb byte stop e) (ap (onto byte) (first next bytes))
      ]

  before_end : (bytes : List ℕ) (place : ℕ) → place < length bytes → let end = end_in stop bytes place in
      cut_from stop bytes place ≡ take (end - place) (drop place bytes) ∷ cut_from stop bytes (suc end)
  before_end [] place h = absurd (omega arith)
  before_end (byte ∷ bytes) zero h =
      let e : end_in stop (byte ∷ bytes) 0 - 0 ≡ end_in stop (byte ∷ bytes) 0 = omega arith in
      rw e (first byte bytes)
  before_end (byte ∷ bytes) (suc place) h =
      let e : suc (end_in stop bytes place) - suc place ≡ end_in stop bytes place - place = omega arith in
      rw e (before_end bytes place (omega arith))

  -- a piece and what follows it
  pub step : (bytes : List ℕ) (place end : ℕ) → place ≤ length bytes → end ≡ end_in stop bytes place
      → cut_from stop bytes place ≡ take (end - place) (drop place bytes) ∷ cut_from stop bytes (end + 1)
  step bytes place end h e =
      elim (cases_lt place (length bytes)) [
        | inl l ↦ rw (add-one, e) (before_end bytes place l)
        | inr l ↦ (
            let all = end_past stop bytes place l in
            let empty : end - place ≡ 0 = omega arith in
            let behind = none_past bytes (end + 1) (omega arith) in
            rw empty (at_end bytes place (omega arith) ∙ ap (λ pieces. [] ∷ pieces) (sym behind)))
      ]
