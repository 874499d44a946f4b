-- A line is cut at its tabs into its letter and the texts of its values, and they make up the line again.
use Rattle.std.proofs.Common.{◌≡◌, ℕ, ◌*◌, ◌<◌, ◌≤◌, eqb, List, [], ◌∷◌, ◌++◌, map, length, sym, refl, ap, ◌∙◌, arith}
use Rattle.std.proofs.lemmas.Bool.{ne_eqb, cond_both, eqb-true}
use Rattle.std.proofs.lemmas.List.{length-append, append-nil}
use Rattle.text.specs.Fields.{fields_in}
use Rattle.text.specs.Pieces.{onto}
use Rattle.text.specs.PieceLaws.{Unbroken}
use Rattle.text.proofs.Joins.{unbroken_cut}
use Rattle.lines.specs.Fits.{FitAll}
use Rattle.lines.specs.Texts.{text_of, fields_text}
use Rattle.lines.specs.declared.shape.Kind.{Kind}
use Rattle.lines.specs.declared.value.Value.{Value}
use Rattle.lines.proofs.ValueTexts.{no_tab, text_few}

pub fields_few : (ks : List Kind) (vs : List Value) → FitAll ks vs → length (fields_text vs) ≤ 14 * length ks
fields_few [] [] h = omega arith
fields_few (k ∷ ks) (v ∷ vs) h =
    let field = text_few k v h.0 in
    let fields = fields_few ks vs h.1 in
    let both = length-append (text_of v) (fields_text vs) in
    omega arith
fields_few _ _ h = absurd h

cut_front : (bytes rest : List ℕ) → Unbroken 9 bytes → fields_in (bytes ++ (9 ∷ rest)) ≡ bytes ∷ fields_in rest
cut_front [] rest h = refl
cut_front (byte ∷ bytes) rest h = rw (ne_eqb byte 9 h.0) (ap (onto byte) (cut_front bytes rest h.1))

pub cut_fields : (bytes : List ℕ) (ks : List Kind) (vs : List Value) → Unbroken 9 bytes → FitAll ks vs
    → fields_in (bytes ++ fields_text vs) ≡ bytes ∷ map text_of vs
cut_fields bytes [] [] h f = rw append-nil (unbroken_cut 9 bytes h)
cut_fields bytes (k ∷ ks) (v ∷ vs) h f =
    cut_front bytes (text_of v ++ fields_text vs) h
    ∙ ap (λ fields. bytes ∷ fields) (cut_fields (text_of v) ks vs (no_tab k v f.0) f.1)
cut_fields bytes _ _ h f = absurd f

-- fields joined by tabs
abbrev tails : List (List ℕ) → List ℕ
tails [] = []
tails (field ∷ fields) = 9 ∷ (field ++ tails fields)

abbrev join : List (List ℕ) → List ℕ
join [] = []
join (field ∷ fields) = field ++ tails fields

join_onto : (byte : ℕ) (fields : List (List ℕ)) → join (onto byte fields) ≡ byte ∷ join fields
join_onto byte [] = refl
join_onto byte (field ∷ fields) = refl

onto_some : (byte : ℕ) (fields : List (List ℕ)) → 0 < length (onto byte fields)
onto_some byte [] = omega arith
onto_some byte (field ∷ fields) = omega arith

cut_some : (bytes : List ℕ) → 0 < length (fields_in bytes)
cut_some [] = omega arith
cut_some (byte ∷ bytes) =
    cond_both (eqb byte 9) ([] ∷ fields_in bytes) (onto byte (fields_in bytes)) (λ fields. 0 < length fields)
    (λ e. omega arith) (λ e. onto_some byte (fields_in bytes))

tails_join : (fields : List (List ℕ)) → 0 < length fields → tails fields ≡ 9 ∷ join fields
tails_join [] h = absurd (omega arith)
tails_join (field ∷ fields) h = refl

join_cut : (bytes : List ℕ) → join (fields_in bytes) ≡ bytes
join_cut [] = refl
join_cut (byte ∷ bytes) =
    cond_both (eqb byte 9) ([] ∷ fields_in bytes) (onto byte (fields_in bytes)) (λ fields. join fields ≡ byte ∷ bytes)
    (λ e. tails_join (fields_in bytes) (cut_some bytes)
    ∙ (ap (λ rest. 9 ∷ rest) (join_cut bytes) ∙ ap (λ x. x ∷ bytes) (sym (eqb-true byte 9 e))))
    (λ e. join_onto byte (fields_in bytes) ∙ ap (λ rest. byte ∷ rest) (join_cut bytes))

tails_values : (vs : List Value) → tails (map text_of vs) ≡ fields_text vs
tails_values [] = refl
tails_values (v ∷ vs) = ap (λ rest. 9 ∷ (text_of v ++ rest)) (tails_values vs)

pub join_fields : (line bytes : List ℕ) (vs : List Value)
    → fields_in line ≡ bytes ∷ map text_of vs → line ≡ bytes ++ fields_text vs
join_fields line bytes vs e = sym (join_cut line) ∙ (ap join e ∙ ap (λ rest. bytes ++ rest) (tails_values vs))
