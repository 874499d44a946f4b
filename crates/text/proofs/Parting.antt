-- Bytes are their pieces, and have no others. Assumes nothing.
use Rattle.std.proofs.Common.{◌≡◌, ℕ, List, [], ◌∷◌, refl, sym, ◌∙◌, ap, inl, inr}
use Rattle.std.proofs.lemmas.List.{append-nil}
use Rattle.std.proofs.lemmas.Bool.{cases_eq, eq-eqb, ne_eqb}
use Rattle.text.specs.Pieces.{onto, cut}
use Rattle.text.specs.PieceLaws.{parted, Unbroken, AllUnbroken, PiecesOf, CutWhole}
use Rattle.text.proofs.Joins.{cut_some, cut_more, cut_unbroken, unbroken_cut}

module _ (stop : ℕ) where
  onto_parted : (byte : ℕ) (first : List ℕ) (rest : List (List ℕ))
      → parted stop (onto byte (first ∷ rest)) ≡ byte ∷ parted stop (first ∷ rest)
  onto_parted byte first [] = refl
  onto_parted byte first (next ∷ rest) = refl

  empty_parted : (first : List ℕ) (rest : List (List ℕ)) → parted stop ([] ∷ (first ∷ rest)) ≡ stop ∷ parted stop (first ∷ rest)
  empty_parted first rest = refl

  cut_parted : (bytes : List ℕ) → parted stop (cut stop bytes) ≡ bytes
  cut_parted [] = refl
  cut_parted (byte ∷ bytes) =
      let some = cut_some stop bytes in
      let rest = cut_parted bytes in
      elim (cases_eq byte stop) [
        | inl e ↦ rw (eq-eqb byte stop e, e, some.is) (ap (λ more. stop ∷ more) (rw some.is at rest))
        | inr e ↦ rw (ne_eqb byte stop e, some.is) (onto_parted byte some.first some.rest ∙ ap (λ more. byte ∷ more) (rw some.is at rest))
      ]

  parted_cut : (piece : List ℕ) (pieces : List (List ℕ)) → Unbroken stop piece → AllUnbroken stop pieces
      → cut stop (parted stop (piece ∷ pieces)) ≡ piece ∷ pieces
  parted_cut piece [] h all = unbroken_cut stop piece h
  parted_cut piece (next ∷ pieces) h all =
      cut_more stop piece (stop ∷ parted stop (next ∷ pieces)) [] piece (unbroken_cut stop piece h)
      ∙ rw (eq-eqb stop stop refl, parted_cut next pieces all.0 all.1, append-nil piece) refl

  pub cut_pieces : (bytes : List ℕ) → PiecesOf stop bytes (cut stop bytes)
  cut_pieces bytes = record {
    some = λ e. let some = cut_some stop bytes in let no : (some.first ∷ some.rest) ≡ [] = sym some.is ∙ e in cc;
    joined = cut_parted bytes;
    unbroken = cut_unbroken stop bytes;
  }

  pub only_pieces : (bytes : List ℕ) (pieces : List (List ℕ)) → PiecesOf stop bytes pieces → pieces ≡ cut stop bytes
  only_pieces bytes [] of = absurd (of.some refl)
  only_pieces bytes (piece ∷ pieces) of = sym (parted_cut piece pieces of.unbroken.0 of.unbroken.1) ∙ ap (cut stop) of.joined

pub cut_whole : CutWhole
cut_whole = record { pieces = cut_pieces; only = only_pieces }
