-- A letter and a count of fields tell the shape, and a shape and its values tell the entry.
use Rattle.std.proofs.Common.{◌≡◌, ℕ, ◌<◌, ◌≤◌, if◌then◌else◌, ◌==◌, List, length, get_or, ℤ, Some, None, Option, sym, refl, ap, ◌∙◌, arith}
use Rattle.book.specs.declared.entry.Entry.TheVariants as call
use Rattle.lines.specs.Rows.{figure_in, price_in, day_in, cover_in}
use Rattle.lines.specs.Shapes.{letter_of, kinds_of, shape_of}
use Rattle.lines.specs.Values.{values_of, price_value}
use Rattle.lines.specs.declared.entry.LineEntry.{LineEntry}
use Rattle.lines.specs.declared.entry.LineEntry.TheVariants as entry
use Rattle.lines.specs.declared.shape.Shape.{Shape}
use Rattle.lines.specs.declared.shape.Shape.TheVariants.{SetUp, Open, Result, Offer, Request, Allot, Deploy, Miss}
use Rattle.lines.specs.declared.shape.Shape.TheVariants.{Close, Void, Year, DayPrices, HourPrices}
use Rattle.lines.specs.declared.value.Value.{Value}
use Rattle.lines.specs.declared.value.Value.TheVariants.{Missing}

abbrev shape_from : (letter count : ℕ) → Shape
shape_from letter count =
    if letter == 83 then SetUp
    else if letter == 68 then Open
    else if letter == 82 then Result
    else if letter == 86 then Offer
    else if letter == 67 then Request
    else if letter == 65 then Allot
    else if letter == 69 then Deploy
    else if letter == 70 then Miss
    else if letter == 90 then Close
    else if letter == 88 then Void
    else if letter == 89 then Year
    else if letter == 80 then DayPrices
    else HourPrices

shape_back : (s : Shape) → shape_from (letter_of s) (length (kinds_of s)) ≡ s
shape_back SetUp = refl
shape_back Open = refl
shape_back Result = refl
shape_back Offer = refl
shape_back Request = refl
shape_back Allot = refl
shape_back Deploy = refl
shape_back Miss = refl
shape_back Close = refl
shape_back Void = refl
shape_back Year = refl
shape_back DayPrices = refl
shape_back HourPrices = refl

pub same_shape : (r s : Shape) → letter_of r ≡ letter_of s → length (kinds_of r) ≡ length (kinds_of s) → r ≡ s
same_shape r s e n =
    sym (shape_back r)
    ∙ (ap (λ letter. shape_from letter (length (kinds_of r))) e ∙ (ap (shape_from (letter_of s)) n ∙ shape_back s))

pub letter_above_tab : (s : Shape) → 9 < letter_of s
letter_above_tab SetUp = omega arith
letter_above_tab _ = omega arith

pub kinds_few : (s : Shape) → length (kinds_of s) ≤ 5
kinds_few SetUp = omega arith
kinds_few _ = omega arith

-- what the value at a place is
abbrev figure : List Value → ℕ → ℤ
figure vs i = figure_in (get_or vs i Missing)

abbrev price : List Value → ℕ → Option ℤ
price vs i = price_in (get_or vs i Missing)

abbrev entry_from : Shape → List Value → LineEntry
entry_from SetUp vs = entry.SetUp (figure vs 0) (figure vs 1) (figure vs 2)
entry_from Open vs = entry.Call (call.Open (figure vs 0) (day_in (get_or vs 1 Missing)) (figure vs 2))
entry_from Result vs = entry.Call (call.Result (figure vs 0) (figure vs 1) (figure vs 2))
entry_from Offer vs = entry.Call (call.Offer (figure vs 0) (figure vs 1) (figure vs 2))
entry_from Request vs = entry.Call (call.Request (figure vs 0) (figure vs 1) (figure vs 2))
entry_from Allot vs = entry.Call (call.Allot (figure vs 0))
entry_from Deploy vs = entry.Call (call.Deploy (figure vs 0) (figure vs 1) (figure vs 2))
entry_from Miss vs =
    entry.Call (call.Miss (figure vs 0) (figure vs 1) (figure vs 2) (figure vs 3) (cover_in (get_or vs 4 Missing)))
entry_from Close vs = entry.Call call.Close
entry_from Void vs = entry.Call call.Void
entry_from Year vs = entry.Call call.Year
entry_from DayPrices vs = entry.DayPrices (figure vs 0) (price vs 1) (price vs 2)
entry_from HourPrices vs = entry.HourPrices (figure vs 0) (figure vs 1) (price vs 2) (price vs 3)

price_back : (p : Option ℤ) → price_in (price_value p) ≡ p
price_back (Some z) = refl
price_back None = refl

entry_back : (e : LineEntry) → entry_from (shape_of e) (values_of e) ≡ e
entry_back (entry.SetUp a b c) = refl
entry_back (entry.Call (call.Open a k c)) = refl
entry_back (entry.Call (call.Result a b c)) = refl
entry_back (entry.Call (call.Offer a b c)) = refl
entry_back (entry.Call (call.Request a b c)) = refl
entry_back (entry.Call (call.Allot a)) = refl
entry_back (entry.Call (call.Deploy a b c)) = refl
entry_back (entry.Call (call.Miss a b c d k)) = refl
entry_back (entry.Call call.Close) = refl
entry_back (entry.Call call.Void) = refl
entry_back (entry.Call call.Year) = refl
entry_back (entry.DayPrices a p q) = rw (price_back p, price_back q)
entry_back (entry.HourPrices a b p q) = rw (price_back p, price_back q)

pub same_entry : (e d : LineEntry) → shape_of e ≡ shape_of d → values_of e ≡ values_of d → e ≡ d
same_entry e d s v =
    sym (entry_back e)
    ∙ ((ap (λ shape. entry_from shape (values_of e)) s ∙ ap (entry_from (shape_of d)) v) ∙ entry_back d)
