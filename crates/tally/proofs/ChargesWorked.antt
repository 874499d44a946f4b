-- The worked charges follow from the definitions. Assumes nothing.
use Rattle.std.proofs.Common.{refl}
use Rattle.tally.specs.WorkedCharges.{WorkedCharges}
use Rattle.tally.proofs.Figures.{figures}

pub worked_charges : WorkedCharges
unfolding figures
worked_charges = record {
  covered_to_pool = refl;
  covered_to_buyer = refl;
  twice_missed = cc;
  first_buyer = refl;
  second_buyer = refl;
  uncovered_of_two = refl;
  covered_of_two = cc;
  later_hour = cc;
  dear = refl;
  negative = refl;
  second_failure = refl;
  uncovered_to_buyer = refl;
  uncovered_to_pool = refl;
  charged_before = refl;
  december = refl;
  year_so_far = refl;
  other_month = refl;
  other_party = refl;
  same_month = cc;
  last_hour = cc;
  last_hour_again = cc;
}
