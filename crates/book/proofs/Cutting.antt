-- Charges cut in turn to what the ceiling still allows. Assumes nothing.
use Rattle.std.proofs.Common.{◌≡◌, ℕ, suc, ◌+◌, ◌-◌, ◌≤◌, min, false, List, [], replicate, refl, ◌∙◌, add-one, mul-zero, arith}
use Rattle.std.proofs.lemmas.Bool.Decides.{nat_tests}
use Rattle.tally.specs.Charges.{allowance, charge, cut_charge, is_failure_day, missed_at}
use Rattle.tally.specs.DayPrices.{DayPrices}
use Rattle.tally.specs.Numbered.{total, before}
use Rattle.tally.specs.States.{State, hour_at}
use Rattle.tally.proofs.Numbering.{total_none, total_more, term_le}
use Rattle.book.proofs.Blanks.{at_same, at_row}
use Rattle.book.specs.CutTables.{hour_charges, left_before, SmallCuts, HasCuts}
use Rattle.book.specs.Records.{at, in_row}

module _ (state : State) (prices : DayPrices) (seller : ℕ) where
  pub left_whole : allowance state seller ≡ left_before state prices seller 1
  left_whole = omega (arith, total_none (hour_charges state prices seller))

  pub left_more : (hour left : ℕ) → left ≡ left_before state prices seller (suc hour)
      → left - hour_charges state prices seller (suc hour) ≡ left_before state prices seller (suc (hour + 1))
  left_more hour left room = rw add-one (omega (arith, total_more (hour_charges state prices seller) hour))

  -- what is left within an hour, when some buyers have been charged
  abbrev pub left_within : (hour buyers : ℕ) → ℕ
  left_within hour buyers =
      allowance state seller - (before (hour_charges state prices seller) hour + total (charge state prices seller hour) buyers)

  pub left_first : (hour : ℕ) → left_before state prices seller hour ≡ left_within hour 0
  left_first hour = omega (arith, total_none (charge state prices seller hour))

  module _ (hour buyers left uncut : ℕ) (room : left ≡ left_within hour buyers)
      (is : uncut ≡ charge state prices seller hour (suc buyers)) where
    pub cut_next : min uncut left ≡ cut_charge state prices seller hour (suc buyers)
    unfolding cut_charge
    cut_next = rw (room, is) refl

    pub left_next : left - min uncut left ≡ left_within hour (buyers + 1)
    left_next = rw add-one (omega (arith, room, is, total_more (charge state prices seller hour) buyers))

-- an entry for each party, none of which is charged
abbrev pub zeros : List ℕ
zeros = replicate 12 0

pub zeros_none : (k : ℕ) → at 0 zeros k ≡ 0
zeros_none = at_same 12 0

pub zeros_small : (k : ℕ) → at 0 zeros k ≤ 4000000000000
zeros_small k = omega (arith, zeros_none k)

-- a row of them for each hour
abbrev pub zero_rows : List (List ℕ)
zero_rows = replicate 24 zeros

pub zero_rows_none : (hour buyer : ℕ) → in_row 0 zero_rows hour buyer ≡ 0
zero_rows_none = at_row 24 12 0

pub zero_rows_small : SmallCuts zero_rows
zero_rows_small hour buyer = omega (arith, zero_rows_none hour buyer)

-- who missed nothing is not charged
pub uncharged : (state : State) (prices : DayPrices) (seller : ℕ) → is_failure_day state seller ≡ false
    → HasCuts state prices seller []
unfolding is_failure_day missed_at charge cut_charge
uncharged state prices seller e hour buyer first last is =
    let none : total (missed_at state seller) 24 ≡ 0 = grind (arith, nat_tests) in
    let at_hour = term_le (missed_at state seller) hour 24 first last in
    let of_buyer = term_le ((hour_at state hour).missed seller) buyer state.set_up.parties is.0 is.1 in
    let missed : (hour_at state hour).missed seller buyer ≡ 0 = omega arith in
    at_row 0 0 0 hour buyer ∙ rw (missed, mul-zero) (omega arith)
