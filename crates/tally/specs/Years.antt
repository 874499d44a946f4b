-- What a close adds to the program year. Assumes nothing.
use Rattle.std.specs.Prelude.{ℕ, ◌+◌}
use Rattle.tariff.specs.Blocks.{hours_of_day}
use Rattle.tally.specs.Charges.{cut_charge, failure_days, month_miss}
use Rattle.tally.specs.DayPrices.{DayPrices}
use Rattle.tally.specs.Numbered.{total}
use Rattle.tally.specs.States.{State, Year}

-- what a seller is charged in a day
unfoldable pub day_charges : State → DayPrices → ℕ → ℕ
day_charges state prices seller = total (λ hour. total (cut_charge state prices seller hour) state.set_up.parties) hours_of_day

-- the year with the day counted: failure days, monthly misses and charges as they were cut
abbrev pub year_closed : State → DayPrices → Year
year_closed state prices = record (state.year) {
  failure_days = failure_days state;
  misses = month_miss state;
  charges = λ seller. state.year.charges seller + day_charges state prices seller;
}
