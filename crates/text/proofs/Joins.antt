-- The pieces of bytes that came in two parts. Assumes nothing.
use Rattle.std.proofs.Common.{◌≡◌, ◌≢◌, ℕ, zero, suc, List, [], ◌∷◌, ◌++◌, take, refl, ◌∙◌, ap, subst, inl, inr}
use Rattle.std.proofs.lemmas.Bool.{cases_eq, eq-eqb, ne_eqb}
use Rattle.text.specs.Pieces.{onto, cut}
use Rattle.text.specs.PieceLaws.{Unbroken, AllUnbroken}

-- bytes put before the first of some pieces
abbrev pub before_first : List ℕ → List (List ℕ) → List (List ℕ)
before_first bytes [] = bytes ∷ []
before_first bytes (piece ∷ pieces) = (bytes ++ piece) ∷ pieces

-- the last of some pieces and the first of others are one
abbrev joined : (pieces others : List (List ℕ)) → List (List ℕ)
joined [] others = others
joined (piece ∷ []) others = before_first piece others
joined (piece ∷ (next ∷ pieces)) others = piece ∷ joined (next ∷ pieces) others

onto_joined : (byte : ℕ) (piece : List ℕ) (pieces others : List (List ℕ))
    → onto byte (joined (piece ∷ pieces) others) ≡ joined (onto byte (piece ∷ pieces)) others
onto_joined byte piece [] [] = refl
onto_joined byte piece [] (other ∷ others) = refl
onto_joined byte piece (next ∷ pieces) others = refl

joined_last : (pieces : List (List ℕ)) (last : List ℕ) (others : List (List ℕ))
    → joined (pieces ++ (last ∷ [])) others ≡ pieces ++ before_first last others
joined_last [] last others = refl
joined_last (piece ∷ []) last others = refl
joined_last (piece ∷ (next ∷ pieces)) last others = ap (λ rest. piece ∷ rest) (joined_last (next ∷ pieces) last others)

-- bytes have a first piece
pub record Some (pieces : List (List ℕ)) : Type 0 where
  pub first : List ℕ
  pub rest : List (List ℕ)
  pub is : pieces ≡ first ∷ rest

onto_some : (byte : ℕ) (pieces : List (List ℕ)) → Some (onto byte pieces)
onto_some byte [] = record { first = byte ∷ []; rest = []; is = refl }
onto_some byte (piece ∷ pieces) = record { first = byte ∷ piece; rest = pieces; is = refl }

module _ (stop : ℕ) where
  pub cut_some : (bytes : List ℕ) → Some (cut stop bytes)
  cut_some [] = record { first = []; rest = []; is = refl }
  cut_some (byte ∷ bytes) =
      elim (cases_eq byte stop) [
        | inl e ↦ rw (eq-eqb byte stop e) (record { first = []; rest = cut stop bytes; is = refl })
        | inr e ↦ rw (ne_eqb byte stop e) (onto_some byte (cut stop bytes))
      ]

  cut_both : (bytes more : List ℕ) → cut stop (bytes ++ more) ≡ joined (cut stop bytes) (cut stop more)
  cut_both [] more = let some = cut_some more in rw some.is refl
  cut_both (byte ∷ bytes) more =
      let some = cut_some bytes in
      let rest = cut_both bytes more in
      elim (cases_eq byte stop) [
        | inl e ↦ rw (eq-eqb byte stop e, rest, some.is) refl
        | inr e ↦ rw (ne_eqb byte stop e, rest, some.is) (onto_joined byte some.first some.rest (cut stop more))
      ]

  -- what follows the last piece goes on with it
  pub cut_more : (bytes more : List ℕ) (pieces : List (List ℕ)) (last : List ℕ) → cut stop bytes ≡ pieces ++ (last ∷ [])
      → cut stop (bytes ++ more) ≡ pieces ++ before_first last (cut stop more)
  cut_more bytes more pieces last e =
      cut_both bytes more ∙ (ap (λ all. joined all (cut stop more)) e ∙ joined_last pieces last (cut stop more))

  onto_unbroken : (byte : ℕ) (pieces : List (List ℕ)) → byte ≢ stop → AllUnbroken stop pieces → AllUnbroken stop (onto byte pieces)
  onto_unbroken byte [] other all = ((other, tt), tt)
  onto_unbroken byte (piece ∷ pieces) other all = ((other, all.0), all.1)

  pub cut_unbroken : (bytes : List ℕ) → AllUnbroken stop (cut stop bytes)
  cut_unbroken [] = (tt, tt)
  cut_unbroken (byte ∷ bytes) =
      elim (cases_eq byte stop) [
        | inl e ↦ rw (eq-eqb byte stop e) (tt, cut_unbroken bytes)
        | inr e ↦ rw (ne_eqb byte stop e) (onto_unbroken byte (cut stop bytes) e (cut_unbroken bytes))
      ]

  last_unbroken : (pieces : List (List ℕ)) (last : List ℕ) → AllUnbroken stop (pieces ++ (last ∷ [])) → Unbroken stop last
  last_unbroken [] last all = all.0
  last_unbroken (piece ∷ pieces) last all = last_unbroken pieces last all.1

  take_unbroken : (n : ℕ) (bytes : List ℕ) → Unbroken stop bytes → Unbroken stop (take n bytes)
  take_unbroken zero bytes h = tt
  take_unbroken (suc n) [] h = tt
  take_unbroken (suc n) (byte ∷ bytes) h = (h.0, take_unbroken n bytes h.1)

  pub unbroken_cut : (bytes : List ℕ) → Unbroken stop bytes → cut stop bytes ≡ bytes ∷ []
  unbroken_cut [] h = refl
  unbroken_cut (byte ∷ bytes) h = rw (ne_eqb byte stop h.0) (ap (onto byte) (unbroken_cut bytes h.1))

  -- where only the front of the last piece was kept
  pub cut_front : (bytes more : List ℕ) (pieces : List (List ℕ)) (last : List ℕ) (n : ℕ) → cut stop bytes ≡ pieces ++ (last ∷ [])
      → cut stop (take n last ++ more) ≡ before_first (take n last) (cut stop more)
  cut_front bytes more pieces last n e =
      let all : AllUnbroken stop (pieces ++ (last ∷ [])) = subst (AllUnbroken stop) e (cut_unbroken bytes) in
      cut_more (take n last) more [] (take n last) (unbroken_cut (take n last) (take_unbroken n last (last_unbroken pieces last all)))
