-- How the text of a figure begins.
use Rattle.std.proofs.Common.{◌≡◌, ℕ, suc, [], ◌∷◌, length, ℤ, pos, negsuc, decimal, sym, refl, ap, ◌∙◌, subst, inl, inr, arith, Bor, List}
use Rattle.std.proofs.lemmas.Fmt.{decimal_nonempty}
use Rattle.text.specs.Fields.{Begins, Sorted, bytes_of}
use Rattle.text.specs.Figures.{Short, figure_text}
use Rattle.text.specs.declared.fields.Field.{Field}
use Rattle.text.specs.declared.fields.Field.TheVariants.{Figure, Mark, Hyphen}
use Rattle.text.proofs.Sizes.{digit, some}

pub begins : (z : ℤ) → Short z → Begins (figure_text z)
begins (pos n) h = let s = some (decimal n) n h refl in (s, inr (digit (decimal n) n h refl 0 s))
begins (negsuc n) h = (omega arith, inl refl)

-- a hyphen alone is no figure
pub no_hyphen : (z : ℤ) → Short z → 45 ∷ [] ≡ figure_text z → ⊥
no_hyphen (pos n) h e = let d = digit (45 ∷ []) n h e 0 (omega arith) in omega arith
no_hyphen (negsuc n) h e =
    let s = decimal_nonempty (suc n) (omega arith) in
    let l = ap length e in
    omega arith

-- a field of another case writes no figure
pub no_figure : (field : Field) → ((x : Bor (List ℕ)) → field ≡ Figure x → ⊥) → Sorted field
    → (z : ℤ) → Short z → bytes_of field ≡ figure_text z → ⊥
no_figure (Figure bytes) other sorted z h e = other bytes refl
no_figure (Mark bytes) other sorted z h e = sorted (subst Begins (sym e) (begins z h))
no_figure (Hyphen bytes) other sorted z h e = no_hyphen z h (sym sorted ∙ e)
