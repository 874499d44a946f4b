-- A page: an entry for each seller and buyer of twelve. Assumes nothing.
use Rattle.std.specs.Prelude.{ℕ, ◌+◌, ◌-◌, ◌*◌, Bool, if◌then◌else◌, ◌&&◌, List, ◌==◌, nat_le, slice_index_or}
use Rattle.std.specs.List.{flat_map}
use Rattle.tariff.specs.Answers.{Answer, ◌then◌, require}
use Rattle.tariff.specs.declared.refusal.Refusal.TheVariants.{PageSize, Party}

abbrev pub is_party : ℕ → Bool
is_party number = nat_le 1 number && nat_le number 12

-- a page has 144 entries
abbrev pub page_answer : (count : ℕ) → Answer
page_answer count = require (count == 144) (PageSize count)

-- and its entries are those of sellers and buyers from 1 to 12
abbrev pub entry_answer : (count seller buyer : ℕ) → Answer
entry_answer count seller buyer =
    page_answer count then require (is_party seller) (Party 1) then require (is_party buyer) (Party 2)

-- sellers stand one after another, each with its twelve buyers
abbrev pub place : (seller buyer : ℕ) → ℕ
place seller buyer = (seller - 1) * 12 + (buyer - 1)

-- what a page has for a seller and a buyer; other numbers have `none`
abbrev pub page_at : {E : Type 0} → E → List E → (seller buyer : ℕ) → E
page_at none entries seller buyer = if is_party seller && is_party buyer then slice_index_or entries (place seller buyer) none else none

-- the rows of a table, one after another
abbrev pub joined : {E : Type 0} → List (List E) → List E
joined rows = flat_map (λ row. row) rows
