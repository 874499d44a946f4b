use Rattle.std.proofs.Common.{refl}
use Rattle.examples.proofs.examples_hold.Goals as goal
use Rattle.tally.proofs.AccountsWorked.{worked_accounts}
use Rattle.tally.proofs.ChargesWorked.{worked_charges}
use Rattle.tally.proofs.DayWorked.{worked_day}
use Rattle.tally.proofs.Figures.{figures}
use Rattle.tally.proofs.HoursWorked.{worked_hours}
use Rattle.tally.proofs.RefusalsWorked.{worked_refusals}

pub returns : goal.returns
unfolding figures
returns c = record {
  low_real_time = refl;
  high_real_time = refl;
  negative = refl;
  below_cap = refl;
  at_cap = refl;
  half_up = refl;
  quarters = refl;
  quarters_below = refl;
  seven_by_largest = refl;
  seven_by_running = refl;
  one_by_largest = refl;
  one_by_running = refl;
  twelve_allotted = refl;
  twelve_held = refl;
  fifteen_denied = refl;
  hours = worked_hours;
  day = worked_day;
  charges = worked_charges;
  accounts = worked_accounts;
  refusals = worked_refusals;
  too_much = refl;
  held = cc;
  due_pool = refl;
  due_first = cc;
  due_second = cc;
  due_third = cc;
  missed_pool = refl;
  missed_first = cc;
  missed_second = cc;
  missed_third = cc;
}
