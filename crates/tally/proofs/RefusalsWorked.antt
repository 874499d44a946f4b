-- The worked refusals follow from the definitions. Assumes nothing.
use Rattle.std.proofs.Common.{refl}
use Rattle.tally.specs.WorkedRefusals.{WorkedRefusals}
use Rattle.tally.proofs.Figures.{figures}

pub worked_refusals : WorkedRefusals
unfolding figures
worked_refusals = record {
  set_up_one = refl;
  set_up_thirteen = refl;
  set_up_step = refl;
  set_up_negative = refl;
  set_up_full = refl;
  set_up_least = refl;
  set_up_most = refl;
  opens_first = refl;
  opens_later = refl;
  results = refl;
  offers = refl;
  requests = refl;
  allots = refl;
  allots_none = refl;
  allots_one = refl;
  allots_ten = refl;
  allots_twelve = refl;
  allots_surplus = refl;
  allots_thirteen = refl;
  deployments = refl;
  misses = refl;
  closes = refl;
  factor_needed = refl;
  factor_unneeded = refl;
  heavy_needed = refl;
  heavy_missing = refl;
  light_needed = refl;
  light_missing = refl;
  sharing_denied = refl;
  light_sharing_denied = refl;
  sharing_unneeded = refl;
  sharing_granted = refl;
  closes_night = refl;
  closes_later = refl;
  opened_later = refl;
  while_open = refl;
  while_shut = refl;
}
