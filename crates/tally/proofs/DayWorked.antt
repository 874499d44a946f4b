-- The worked day follows from the definitions. Assumes nothing.
use Rattle.std.proofs.Common.{refl}
use Rattle.tally.specs.WorkedDay.{WorkedDay}
use Rattle.tally.proofs.Figures.{figures}

pub worked_day : WorkedDay
unfolding figures
worked_day = record {
  held_prices = refl;
  block_prices = refl;
  no_prices = refl;
  no_hour = refl;
  other_day = refl;
  holdback_paid = refl;
  energy_paid = refl;
  made_whole = refl;
  light_block_empty = refl;
  partly_held = refl;
  missed_energy = refl;
  missed_made_whole = refl;
  two_buyers = refl;
  night = refl;
  sunday_holdback = refl;
  sunday_energy = refl;
  sunday_heavy = refl;
  quiet_year = refl;
  missed_year = refl;
  two_buyers_year = refl;
  night_year = refl;
}
