-- Charges laid end to end and cut to an allowance come to the lesser of both. Assumes nothing.
use Rattle.std.proofs.Common.{◌≡◌, ℕ, zero, suc, ◌+◌, ◌-◌, ◌≤◌, min, refl, arith}
use Rattle.tariff.specs.Blocks.{hours_of_day}
use Rattle.tally.specs.ChargeLaws.{ChargesCutInTurn, charged_before}
use Rattle.tally.specs.Charges.{allowance, ceiling, charge, cut_charge, earlier_charges}
use Rattle.tally.specs.DayPrices.{DayPrices}
use Rattle.tally.specs.Numbered.{total, before}
use Rattle.tally.specs.States.{State}
use Rattle.tally.specs.Years.{day_charges}
use Rattle.tally.proofs.Numbering.{total_none, total_more}

-- each charge of an hour cut to the room that is left, where the hours before came to `past`
abbrev cut_to : (c : ℕ → ℕ) (room past buyer : ℕ) → ℕ
cut_to c room past buyer = min (c buyer) (room - (past + before c buyer))

cut_hour : (c : ℕ → ℕ) (room past n : ℕ) → total (cut_to c room past) n + min room past ≡ min room (past + total c n)
cut_hour c room past zero = omega (arith, total_none c, total_none (cut_to c room past))
cut_hour c room past (suc n) = omega (arith, total_more c n, total_more (cut_to c room past) n, cut_hour c room past n)

-- hour after hour
cut_hours : (c : ℕ → ℕ → ℕ) (room n m : ℕ) →
    total (λ h. total (cut_to (c h) room (before (λ e. total (c e) n) h)) n) m ≡ min room (total (λ h. total (c h) n) m)
cut_hours c room n zero =
    omega (arith, total_none (λ h. total (c h) n), total_none (λ h. total (cut_to (c h) room (before (λ e. total (c e) n) h)) n))
cut_hours c room n (suc m) =
    omega (
      arith,
      total_more (λ h. total (c h) n) m,
      total_more (λ h. total (cut_to (c h) room (before (λ e. total (c e) n) h)) n) m,
      cut_hour (c (suc m)) room (total (λ h. total (c h) n) m) n,
      cut_hours c room n m,
    )

module _ (state : State) (prices : DayPrices) (seller : ℕ) where
  -- a day's charges, uncut, and cut to the allowance
  pub day_charges_cut : day_charges state prices seller
      ≡ min (allowance state seller) (total (λ hour. total (charge state prices seller hour) state.set_up.parties) hours_of_day)
  unfolding day_charges cut_charge
  day_charges_cut = cut_hours (charge state prices seller) (allowance state seller) state.set_up.parties hours_of_day

  pub day_charges_within : day_charges state prices seller ≤ allowance state seller
  day_charges_within = omega (arith, day_charges_cut)

  -- what the hours before come to, and what the buyers before add to that
  cut_before_hour : (hour : ℕ) → before (λ earlier. total (cut_charge state prices seller earlier) state.set_up.parties) hour
      ≡ min (allowance state seller) (before (λ earlier. total (charge state prices seller earlier) state.set_up.parties) hour)
  unfolding cut_charge
  cut_before_hour zero = omega arith
  cut_before_hour (suc k) = cut_hours (charge state prices seller) (allowance state seller) state.set_up.parties k

  cut_before_buyer : (past hour buyer : ℕ) → past ≡ before (λ earlier. total (charge state prices seller earlier) state.set_up.parties) hour
      → before (cut_charge state prices seller hour) buyer + min (allowance state seller) past
      ≡ min (allowance state seller) (past + before (charge state prices seller hour) buyer)
  unfolding cut_charge
  cut_before_buyer past hour zero e = omega arith
  cut_before_buyer past hour (suc k) e = rw e (cut_hour (charge state prices seller hour) (allowance state seller)
      (before (λ earlier. total (charge state prices seller earlier) state.set_up.parties) hour) k)

  cut : (hour buyer : ℕ) → cut_charge state prices seller hour buyer
      ≡ min (charge state prices seller hour buyer) (allowance state seller - earlier_charges state prices seller hour buyer)
  unfolding cut_charge
  cut hour buyer = refl

  in_turn : (hour buyer : ℕ) → cut_charge state prices seller hour buyer
      ≡ min (charge state prices seller hour buyer) (ceiling state seller - charged_before state prices seller hour buyer)
  in_turn hour buyer = omega (arith, cut hour buyer, cut_before_hour hour, cut_before_buyer _ hour buyer refl)

pub charges_cut_in_turn_lem : ChargesCutInTurn
charges_cut_in_turn_lem state prices seller hour buyer = in_turn state prices seller hour buyer
