-- What every list of calls keeps of delivery charges and their ceiling. Assumes nothing.
use Rattle.std.specs.Prelude.{◌≡◌, ◌≢◌, ℕ, ◌+◌, ◌-◌, ◌≤◌, min, pos}
use Rattle.tariff.specs.Answers.{granted}
use Rattle.tally.specs.Charges.{ceiling, ceiling_of, charge, cut_charge}
use Rattle.tally.specs.DayPrices.{DayPrices}
use Rattle.tally.specs.Denials.{answer}
use Rattle.tally.specs.Events.{Event, start_year}
use Rattle.tally.specs.Laws.{Always}
use Rattle.tally.specs.Numbered.{total, before}
use Rattle.tally.specs.States.{State}
use Rattle.tally.specs.Statements.{charges_of}
use Rattle.tally.specs.Tally.{Tally, tell}

-- the ceiling as it stands, by closed days alone
abbrev pub standing_ceiling : Tally → ℕ → ℕ
standing_ceiling tally seller = ceiling_of tally.state.set_up (tally.state.year.misses seller)

-- A seller's delivery charges on the statements of a program year stay within its ceiling as it stands.
pub record Capped (tally : Tally) (seller : ℕ) : Type 0 where
  pub counted : charges_of tally.state.set_up.parties tally.of_year seller ≡ pos (tally.state.year.charges seller)
  pub within : tally.state.year.charges seller ≤ standing_ceiling tally seller

abbrev pub ChargesWithinCeiling : Type 0
ChargesWithinCeiling = Always (λ tally. (seller : ℕ) → Capped tally seller)

-- The ceiling never falls but by a year that is granted.
abbrev pub CeilingNeverFalls : Type 0
CeilingNeverFalls =
    Always (λ tally. (event : Event) → (event ≡ start_year → answer tally.state event ≢ granted)
    → (seller : ℕ) → standing_ceiling tally seller ≤ standing_ceiling (tell tally event) seller)

-- what a seller was charged in the year before this charge: until today, and today, as it was cut
abbrev pub charged_before : State → DayPrices → (seller hour buyer : ℕ) → ℕ
charged_before state prices seller hour buyer =
    state.year.charges seller
    + before (λ earlier. total (cut_charge state prices seller earlier) state.set_up.parties) hour
    + before (cut_charge state prices seller hour) buyer

-- Each charge in turn is cut to the ceiling, today counted, less what was charged before it.
abbrev pub ChargesCutInTurn : Type 0
ChargesCutInTurn =
    (state : State) (prices : DayPrices) (seller hour buyer : ℕ)
    → cut_charge state prices seller hour buyer
    ≡ min (charge state prices seller hour buyer) (ceiling state seller - charged_before state prices seller hour buyer)
