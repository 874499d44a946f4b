-- The line of an entry has the fields that its values spell, and only such a line says the entry.
use Rattle.std.proofs.Common.{◌≡◌, ℕ, ◌≤◌, List, [], ◌∷◌, map, length, sym, ap, ◌∙◌, arith}
use Rattle.std.proofs.lemmas.List.{length-map}
use Rattle.lines.specs.Fits.{FitAll, Writable}
use Rattle.lines.specs.Reading.{Parts}
use Rattle.lines.specs.Rows.{values_in, IsSpelt}
use Rattle.lines.specs.Shapes.{letter_of, kinds_of, shape_of}
use Rattle.lines.specs.Texts.{text_of, line_of}
use Rattle.lines.specs.Values.{values_of}
use Rattle.lines.specs.declared.entry.LineEntry.{LineEntry}
use Rattle.lines.specs.declared.row.Row.{Row}
use Rattle.lines.specs.declared.shape.Shape.{Shape}
use Rattle.lines.proofs.FieldTexts.{fields_few, cut_fields, join_fields}
use Rattle.lines.proofs.Fitting.{fit_length, same_texts}
use Rattle.lines.proofs.Tables.{same_shape, letter_above_tab, kinds_few, same_entry}
use Rattle.text.specs.PieceLaws.{Unbroken}

abbrev pub texts_of : LineEntry → List (List ℕ)
texts_of e = map text_of (values_of e)

pub line_parts : (e : LineEntry) → Writable e → Parts (line_of e) (letter_of (shape_of e)) (texts_of e)
line_parts e h =
    let letter : Unbroken 9 (letter_of (shape_of e) ∷ []) = (λ q. omega (arith, letter_above_tab (shape_of e)), tt) in
    cut_fields (letter_of (shape_of e) ∷ []) (kinds_of (shape_of e)) (values_of e) letter h

pub line_short : (e : LineEntry) → Writable e → length (line_of e) ≤ 80
line_short e h =
    let few = kinds_few (shape_of e) in
    omega (arith, fields_few (kinds_of (shape_of e)) (values_of e) h)

pub text_count : (e : LineEntry) → Writable e → length (texts_of e) ≡ length (kinds_of (shape_of e))
text_count e h = length-map (values_of e) text_of ∙ fit_length (kinds_of (shape_of e)) (values_of e) h

-- the entry of a row that a line spells
pub line_made : (line : List ℕ) (s : Shape) (fields : List (List ℕ)) (row : Row) (e : LineEntry)
    → Parts line (letter_of s) fields → IsSpelt s fields row → shape_of e ≡ row.shape → values_of e ≡ values_in row
    → Writable e × (line ≡ line_of e)
line_made line s fields row e p spelt a b =
    let letter : List ℕ = letter_of row.shape ∷ [] in
    let parts : Parts line (letter_of row.shape) fields = rw spelt.0 p in
    let whole = join_fields line letter (values_in row) (parts ∙ ap (λ x. letter ∷ x) spelt.2) in
    rw (a, b) (spelt.1, whole)

-- a line is parted in one way
module _ (line : List ℕ) where
  pub one_letter : (r s : ℕ) (fs gs : List (List ℕ)) → Parts line r fs → Parts line s gs → r ≡ s
  one_letter r s fs gs p q = let both = sym p ∙ q in cc

  pub one_rest : (r s : ℕ) (fs gs : List (List ℕ)) → Parts line r fs → Parts line s gs → fs ≡ gs
  one_rest r s fs gs p q = let both = sym p ∙ q in cc

  pub one_shape : (r s : Shape) (fs gs : List (List ℕ)) → Parts line (letter_of r) fs → Parts line (letter_of s) gs
      → length fs ≡ length (kinds_of r) → length gs ≡ length (kinds_of s) → r ≡ s
  one_shape r s fs gs p q m n =
      same_shape r s (one_letter (letter_of r) (letter_of s) fs gs p q)
      (sym m ∙ (ap length (one_rest (letter_of r) (letter_of s) fs gs p q) ∙ n))

-- two entries of one line
pub one_entry : (line : List ℕ) (e d : LineEntry)
    → Writable e → Writable d → line ≡ line_of e → line ≡ line_of d → e ≡ d
one_entry line e d g h a b =
    let parts : Parts line (letter_of (shape_of e)) (texts_of e) = rw a (line_parts e g) in
    let others : Parts line (letter_of (shape_of d)) (texts_of d) = rw b (line_parts d h) in
    let texts =
    one_rest line (letter_of (shape_of e)) (letter_of (shape_of d)) (texts_of e) (texts_of d) parts others in
    let shape =
    one_shape line (shape_of e) (shape_of d) (texts_of e) (texts_of d) parts others (text_count e g) (text_count d h) in
    let fit : FitAll (kinds_of (shape_of e)) (values_of d) = rw shape h in
    same_entry e d shape (same_texts (kinds_of (shape_of e)) (values_of e) (values_of d) g fit texts)
