-- Delivery charges: what sellers pay for missed MWh, within the ceiling of the year. Assumes nothing.
use Rattle.std.specs.Prelude.{ℕ, ◌+◌, ◌-◌, ◌*◌, min, max, Bool, if◌then◌else◌, ◌==◌, nat_lt}
use Rattle.std.specs.Int.{int_max}
use Rattle.tariff.specs.Blocks.{hours_of_day}
use Rattle.tariff.specs.Charges.{delivery_factor}
use Rattle.tariff.specs.declared.charges.Cover.{Cover}
use Rattle.tariff.specs.declared.charges.Cover.TheVariants.{Covered, Uncovered}
use Rattle.tally.specs.DayPrices.{DayPrices, day_ahead_at}
use Rattle.tally.specs.Numbered.{total, before, greatest, positive_part}
use Rattle.tally.specs.States.{months_of_year, State, SetUp, hour_at}

-- full rate × largest month + step rate × sum of the other months
unfoldable pub ceiling_of : SetUp → (ℕ → ℕ) → ℕ
ceiling_of set_up misses =
    set_up.full * greatest misses months_of_year + set_up.step * (total misses months_of_year - greatest misses months_of_year)

-- a covered charge goes to the pool, another to the buyer
abbrev pub pool_part : Cover → ℕ → ℕ
pool_part Covered cents = cents
pool_part Uncovered cents = 0

abbrev pub buyer_part : Cover → ℕ → ℕ
buyer_part Covered cents = 0
buyer_part Uncovered cents = cents

module _ (state : State) where
  -- MWh that a seller missed in an hour, with all buyers together
  unfoldable pub missed_at : (seller hour : ℕ) → ℕ
  missed_at seller hour = total ((hour_at state hour).missed seller) state.set_up.parties

  -- a day with missed MWh above 0 is one failure day, whatever it is charged
  unfoldable pub is_failure_day : ℕ → Bool
  is_failure_day seller = nat_lt 0 (total (missed_at seller) hours_of_day)

  -- the seller's failure days of the year, today's with them
  abbrev pub failure_days : ℕ → ℕ
  failure_days seller = state.year.failure_days seller + (if is_failure_day seller then 1 else 0)

  -- a month's miss is the largest total missed in one hour; all of today's hours count in today's month
  abbrev pub month_miss : (seller month : ℕ) → ℕ
  month_miss seller month =
      max (state.year.misses seller month) (if month == state.year.month then greatest (missed_at seller) hours_of_day else 0)

  -- the ceiling, today counted, and how much of it was not charged before today
  abbrev pub ceiling : ℕ → ℕ
  ceiling seller = ceiling_of state.set_up (month_miss seller)

  abbrev pub allowance : ℕ → ℕ
  allowance seller = ceiling seller - state.year.charges seller

  module _ (prices : DayPrices) where
    -- delivery factor × max(0, day-ahead, real-time) × MWh missed
    unfoldable pub charge : (seller hour buyer : ℕ) → ℕ
    charge seller hour buyer =
        delivery_factor (failure_days seller) ((hour_at state hour).cover seller buyer)
        * positive_part (int_max (day_ahead_at state prices hour) (prices.real_time hour)) * (hour_at state hour).missed seller buyer

    -- charges are taken by hour, then buyer: what all that come before this one would be if none was cut
    abbrev pub earlier_charges : (seller hour buyer : ℕ) → ℕ
    earlier_charges seller hour buyer =
        before (λ earlier. total (charge seller earlier) state.set_up.parties) hour + before (charge seller hour) buyer

    -- Each is cut to what the ceiling still allows. Earlier charges count uncut: once one was cut, nothing is left anyhow
    -- (ChargeLaws says so).
    unfoldable pub cut_charge : (seller hour buyer : ℕ) → ℕ
    cut_charge seller hour buyer = min (charge seller hour buyer) (allowance seller - earlier_charges seller hour buyer)

    -- and goes to the pool or to the buyer
    abbrev pub pool_charge : (seller hour buyer : ℕ) → ℕ
    pool_charge seller hour buyer = pool_part ((hour_at state hour).cover seller buyer) (cut_charge seller hour buyer)

    abbrev pub buyer_charge : (seller hour buyer : ℕ) → ℕ
    buyer_charge seller hour buyer = buyer_part ((hour_at state hour).cover seller buyer) (cut_charge seller hour buyer)
