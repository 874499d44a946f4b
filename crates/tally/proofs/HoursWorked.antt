-- The worked hours follow from the definitions. Assumes nothing.
use Rattle.std.proofs.Common.{refl}
use Rattle.tally.specs.WorkedHours.{WorkedHours}
use Rattle.tally.proofs.Figures.{figures}

pub worked_hours : WorkedHours
unfolding figures
worked_hours = record {
  results = refl;
  offers = refl;
  requests = refl;
  other_hour = refl;
  offer_again = refl;
  request_again = refl;
  result_again = refl;
  surpluses = refl;
  shortfalls = refl;
  counted = refl;
  uncounted = refl;
  offers_divided = refl;
  offers_used_up = refl;
  surpluses_divided = refl;
  nothing_held = refl;
  is_allotted = refl;
  pairs = refl;
  divided = refl;
  deployments = refl;
  misses = refl;
  covers = refl;
  deliveries = refl;
  declines = refl;
  redeployments = refl;
  misses_gone = refl;
  miss_replaced = refl;
  cover_replaced = refl;
}
