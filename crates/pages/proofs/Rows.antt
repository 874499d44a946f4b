-- A page that has the rows of a table one after another. Assumes nothing.
use Rattle.std.proofs.Common.{◌≡◌, ℕ, zero, suc, ◌+◌, ◌-◌, ◌*◌, ◌<◌, List, [], ◌∷◌, length, get_or, ap, ◌∙◌, arith}
use Rattle.std.proofs.lemmas.Bool.Decides.{nat_tests}
use Rattle.std.proofs.lemmas.List.{get_or-append-add, get_or_append_left}
use Rattle.pages.specs.Pages.{joined, page_at}

-- rows of twelve
abbrev pub OfTwelve : {E : Type 0} → List (List E) → Type 0
OfTwelve rows = (place : ℕ) → place < length rows → length (get_or rows place []) ≡ 12

joined_at : {E : Type 0} (none : E) (rows : List (List E)) → OfTwelve rows → (seller buyer : ℕ) → seller < length rows → buyer < 12
    → get_or (joined rows) (seller * 12 + buyer) none ≡ get_or (get_or rows seller []) buyer none
joined_at none [] twelve seller buyer l m = absurd (omega arith)
joined_at none (row ∷ rows) twelve zero buyer l m =
    let t = twelve 0 (omega arith) in
    let e : 0 * 12 + buyer ≡ buyer = omega arith in
    ap (λ p. get_or (joined (row ∷ rows)) p none) e ∙ get_or_append_left row (joined rows) none buyer (omega arith)
joined_at none (row ∷ rows) twelve (suc seller) buyer l m =
    let t = twelve 0 (omega arith) in
    let e : suc seller * 12 + buyer ≡ length row + (seller * 12 + buyer) = omega arith in
    ap (λ p. get_or (joined (row ∷ rows)) p none) e
    ∙ get_or-append-add row (joined rows) (seller * 12 + buyer) none
    ∙ joined_at none rows (λ place h. twelve (suc place) (omega arith)) seller buyer (omega arith) m

pub page_of_rows : {E : Type 0} (none : E) (rows : List (List E)) → length rows ≡ 12 → OfTwelve rows → (seller buyer : ℕ) → seller < 12
    → buyer < 12
    → page_at none (joined rows) (suc seller) (suc buyer) ≡ get_or (get_or rows seller []) buyer none
page_of_rows none rows count twelve seller buyer l m =
    let e : (suc seller - 1) * 12 + (suc buyer - 1) ≡ seller * 12 + buyer = omega arith in
    let h = joined_at none rows twelve seller buyer (omega arith) m in
    grind (arith, nat_tests)
