-- The texts of values: no tab in them, at most 13 bytes, and no two values of a kind share one.
use Rattle.std.proofs.Common.{◌≡◌, ◌≢◌, ℕ, suc, ◌^◌, ◌<◌, ◌≤◌, List, [], ◌∷◌, length, get_or, ℤ, pos, negsuc, decimal, sym, refl, ap, arith}
use Rattle.std.proofs.lemmas.Fmt.{signed_decimal_injective}
use Rattle.tariff.specs.declared.blocks.DayKind.TheVariants.{Workday, Sunday}
use Rattle.tariff.specs.declared.charges.Cover.TheVariants.{Covered, Uncovered}
use Rattle.text.specs.PieceLaws.{Unbroken}
use Rattle.text.proofs.Sizes.{digit, short}
use Rattle.text.specs.Figures.{Short, figure_text}
use Rattle.lines.specs.Fits.{Fits}
use Rattle.lines.specs.Texts.{text_of}
use Rattle.lines.specs.declared.shape.Kind.{Kind}
use Rattle.lines.specs.declared.shape.Kind.TheVariants as kind
use Rattle.lines.specs.declared.value.Value.{Value}
use Rattle.lines.specs.declared.value.Value.TheVariants.{Figure, Missing, Day, Cover}
use Rattle.lines.proofs.FigureTexts.{no_hyphen}
use lib.Signed.{mag}

fits_short : (k : Kind) (z : ℤ) → Fits k (Figure z) → Short z
fits_short kind.Figure z h = h
fits_short kind.Price z h = h
fits_short _ z h = absurd h

-- by index, so that no induction is wanted at a figure
without : (bytes : List ℕ) → ((i : ℕ) → i < length bytes → get_or bytes i 0 ≢ 9) → Unbroken 9 bytes
without [] h = tt
without (byte ∷ bytes) h = (h 0 (omega arith), without bytes (λ i l. h (suc i) (omega arith)))

no_tab_in_size : (n : ℕ) → n < 10 ^ 12 → Unbroken 9 (decimal n)
no_tab_in_size n h = without (decimal n) (λ i l e. let d = digit (decimal n) n h refl i l in omega arith)

no_tab_in_figure : (z : ℤ) → Short z → Unbroken 9 (figure_text z)
no_tab_in_figure (pos n) h = no_tab_in_size n h
no_tab_in_figure (negsuc n) h = (λ e. omega arith, no_tab_in_size (suc n) h)

pub no_tab : (k : Kind) (v : Value) → Fits k v → Unbroken 9 (text_of v)
no_tab k (Figure z) h = no_tab_in_figure z (fits_short k z h)
no_tab k Missing h = (λ e. omega arith, tt)
no_tab k (Day Workday) h = (λ e. omega arith, tt)
no_tab k (Day Sunday) h = (λ e. omega arith, tt)
no_tab k (Cover Covered) h = (λ e. omega arith, tt)
no_tab k (Cover Uncovered) h = (λ e. omega arith, tt)

figure_few : (z : ℤ) → Short z → length (figure_text z) ≤ 13
figure_few (pos n) h = let s = short (decimal n) n h refl in omega arith
figure_few (negsuc n) h = let s = short (decimal (suc n)) (suc n) h refl in omega arith

pub text_few : (k : Kind) (v : Value) → Fits k v → length (text_of v) ≤ 13
text_few k (Figure z) h = figure_few z (fits_short k z h)
text_few k Missing h = omega arith
text_few k (Day Workday) h = omega arith
text_few k (Day Sunday) h = omega arith
text_few k (Cover Covered) h = omega arith
text_few k (Cover Uncovered) h = omega arith

small : (z : ℤ) → Short z → mag z < 2 ^ 63
small (pos n) h = omega arith
small (negsuc n) h = omega arith

same_figure : (y z : ℤ) → Short y → Short z → figure_text y ≡ figure_text z → Figure y ≡ Figure z
same_figure y z h g e = ap Figure (signed_decimal_injective y z (small y h) (small z g) e)

first_byte : {xs ys : List ℕ} → xs ≡ ys → get_or xs 0 0 ≡ get_or ys 0 0
first_byte e = ap (λ (bytes : List ℕ). get_or bytes 0 0) e

pub same_text : (k : Kind) (v w : Value) → Fits k v → Fits k w → text_of v ≡ text_of w → v ≡ w
same_text kind.Figure (Figure y) (Figure z) h g e = same_figure y z h g e
same_text kind.Price (Figure y) (Figure z) h g e = same_figure y z h g e
same_text kind.Price (Figure y) Missing h g e = absurd (no_hyphen y h (sym e))
same_text kind.Price Missing (Figure z) h g e = absurd (no_hyphen z g e)
same_text kind.Price Missing Missing h g e = refl
same_text kind.Day (Day Workday) (Day Workday) h g e = refl
same_text kind.Day (Day Workday) (Day Sunday) h g e = absurd (omega (arith, first_byte e))
same_text kind.Day (Day Sunday) (Day Workday) h g e = absurd (omega (arith, first_byte e))
same_text kind.Day (Day Sunday) (Day Sunday) h g e = refl
same_text kind.Cover (Cover Covered) (Cover Covered) h g e = refl
same_text kind.Cover (Cover Covered) (Cover Uncovered) h g e = absurd (omega (arith, first_byte e))
same_text kind.Cover (Cover Uncovered) (Cover Covered) h g e = absurd (omega (arith, first_byte e))
same_text kind.Cover (Cover Uncovered) (Cover Uncovered) h g e = refl
same_text _ _ _ h g e = absurd assumption
