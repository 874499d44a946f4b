-- A seller's charges of a day, in a table with a row for each hour and an entry for each buyer. Assumes nothing.
use Rattle.std.specs.Prelude.{◌≡◌, ℕ, ◌<◌, ◌≤◌, ◌-◌, List, []}
use Rattle.tariff.specs.Blocks.{hours_of_day}
use Rattle.tariff.specs.declared.charges.Cover.{Cover}
use Rattle.tariff.specs.declared.charges.Cover.TheVariants.{Covered, Uncovered}
use Rattle.tally.specs.Charges.{allowance, charge, cut_charge, pool_part, buyer_part}
use Rattle.tally.specs.DayPrices.{DayPrices}
use Rattle.tally.specs.Numbered.{total, before}
use Rattle.tally.specs.States.{State, IsParty}
use Rattle.book.specs.Records.{in_row}
use Rattle.book.specs.declared.cut_table.CutTable.{CutTable}
use Rattle.book.specs.declared.cut_table.CutTable.TheVariants.{Nothing, Cuts}

-- where nothing is charged no row is there
abbrev pub rows_of : CutTable → List (List ℕ)
rows_of Nothing = []
rows_of (Cuts rows) = rows

-- what a seller is charged in an hour if nothing is cut
abbrev pub hour_charges : State → DayPrices → (seller hour : ℕ) → ℕ
hour_charges state prices seller hour = total (charge state prices seller hour) state.set_up.parties

-- what the ceiling still allows when an hour begins; earlier charges count uncut: once one was cut, nothing is left anyhow
abbrev pub left_before : State → DayPrices → (seller hour : ℕ) → ℕ
left_before state prices seller hour = allowance state seller - before (hour_charges state prices seller) hour

-- no entry is above what one pair can be charged in an hour
abbrev pub SmallCuts : List (List ℕ) → Type 0
SmallCuts rows = (hour buyer : ℕ) → in_row 0 rows hour buyer ≤ 4000000000000

-- each entry is the charge as it was cut
abbrev pub HasCuts : State → DayPrices → (seller : ℕ) → List (List ℕ) → Type 0
HasCuts state prices seller rows =
    (hour buyer : ℕ) → 0 < hour → hour ≤ hours_of_day → IsParty state buyer
    → in_row 0 rows hour buyer ≡ cut_charge state prices seller hour buyer

-- what goes to the pool is what others covered, and to the buyer what nobody covered
abbrev pub payee_part : Cover → Cover → ℕ → ℕ
payee_part Covered = pool_part
payee_part Uncovered = buyer_part
