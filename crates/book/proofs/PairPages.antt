-- Tables by sellers, and pages that have pairs. Assumes nothing.
use Rattle.std.proofs.Common.{◌≡◌, ℕ, zero, suc, ◌<◌, List, [], get_or, ◌∙◌, get_or-set_same, get_or-set_other, arith}
use Rattle.std.proofs.Math.ListN.{length-set}
use Rattle.std.proofs.lemmas.Bool.{cases_eq}
use Rattle.pages.specs.Pages.{page_at}
use Rattle.book.specs.PairPages.{HasPairs}

-- a list with one place written
pub ruleset writing = (get_or-set_same, get_or-set_other, length-set, cases_eq)

-- a page filled from a table by sellers
pub pairs_on : (pairs : (seller buyer : ℕ) → ℕ) (rows : List (List ℕ)) (entries : List ℕ)
    → ((seller buyer : ℕ) → seller < 12 → buyer < 12 → get_or (get_or rows seller []) buyer 0 ≡ pairs (suc seller) (suc buyer))
    → ((seller buyer : ℕ) → seller < 12 → buyer < 12 → page_at 0 entries (suc seller) (suc buyer) ≡ get_or (get_or rows seller []) buyer 0)
    → HasPairs pairs entries
pairs_on pairs rows entries table page zero buyer first last one twelve = absurd (omega arith)
pairs_on pairs rows entries table page (suc seller) zero first last one twelve = absurd (omega arith)
pairs_on pairs rows entries table page (suc seller) (suc buyer) first last one twelve =
    page seller buyer (omega arith) (omega arith) ∙ table seller buyer (omega arith) (omega arith)
