-- The worked examples. Assumes nothing.
use Rattle.std.specs.Prelude.{◌≡◌, [], ◌∷◌, pos, neg_ℤ, Some}
use Rattle.tariff.specs.Answers.{granted, denied}
use Rattle.tariff.specs.Prices.{initial_terms, total_price, prices, hour_prices}
use Rattle.sheets.specs.Quarters.{average_of}
use Rattle.rules.specs.LargestRemainder.{largest}
use Rattle.rules.specs.RunningTotal.{running}
use Rattle.tally.specs.Denials.{answer}
use Rattle.tally.specs.Tally.{tallied}
use Rattle.tally.specs.WorkedAccounts.{WorkedAccounts}
use Rattle.tally.specs.WorkedCharges.{WorkedCharges}
use Rattle.tally.specs.WorkedDay.{WorkedDay}
use Rattle.tally.specs.WorkedHours.{WorkedHours}
use Rattle.tally.specs.WorkedRefusals.{WorkedRefusals}
use Rattle.examples.specs.Sessions.{pool, allot, offering, allot_answered, reporting, request26, deploying, missing}
use Rattle.examples.specs.Sessions.{holdings_after, due_after}

pub record Examples : Type 0 where
  -- the real-time price lies below the energy share, and above it
  pub low_real_time : hour_prices initial_terms (pos 5000) (pos 4000) 12000 ≡ prices (pos 6600) (pos 4000) (pos 2600)
  pub high_real_time : hour_prices initial_terms (pos 5000) (pos 9000) 12000 ≡ prices (pos 6600) (pos 5280) (pos 1320)
  -- below 0 the total price is 0, and the energy price may be negative
  pub negative : hour_prices initial_terms (neg_ℤ (pos 1000)) (neg_ℤ (pos 500)) 12000 ≡ prices (pos 0) (neg_ℤ (pos 500)) (pos 500)
  -- just below the cap and at it
  pub below_cap : total_price initial_terms (pos 100000) 18181 ≡ pos 199991
  pub at_cap : total_price initial_terms (pos 100000) 18182 ≡ pos 200000
  -- 5.5 cents go up
  pub half_up : total_price initial_terms (pos 5) 10000 ≡ pos 6
  -- quarter-hour results that come to 1.75 and to −1.5 cents
  pub quarters : average_of (Some (pos 1) ∷ Some (pos 2) ∷ Some (pos 2) ∷ Some (pos 2) ∷ []) ≡ Some (pos 2)
  pub quarters_below : average_of (Some (neg_ℤ (pos 1)) ∷ Some (neg_ℤ (pos 2)) ∷ Some (neg_ℤ (pos 2)) ∷ Some (neg_ℤ (pos 1)) ∷ [])
      ≡ Some (neg_ℤ (pos 1))
  -- claims 30 and 20 on 7 units: both rules agree
  pub seven_by_largest : largest 7 (30 ∷ 20 ∷ []) ≡ 4 ∷ 3 ∷ []
  pub seven_by_running : running 7 (30 ∷ 20 ∷ []) ≡ 4 ∷ 3 ∷ []
  -- claims 9 and 1 on a single unit: they do not
  pub one_by_largest : largest 1 (9 ∷ 1 ∷ []) ≡ 1 ∷ 0 ∷ []
  pub one_by_running : running 1 (9 ∷ 1 ∷ []) ≡ 0 ∷ 1 ∷ []
  -- offers 6 and 4, surpluses 1 and 3: requests of 12 take the offers whole and 2 of the surpluses, 15 are 1 too many
  pub twelve_allotted : allot_answered 12 ≡ granted
  pub twelve_held : holdings_after (allot ∷ offering 12) ≡ 7 ∷ 5 ∷ []
  pub fifteen_denied : allot_answered 15 ≡ denied 61 8 1
  -- the tally's own: what calls leave of an hour, a day's payments and make-whole, charges, accounts, and each call's refusals
  pub hours : WorkedHours
  pub day : WorkedDay
  pub charges : WorkedCharges
  pub accounts : WorkedAccounts
  pub refusals : WorkedRefusals
  -- the session of that day: a request that is denied, holdings, and what is due to the pool and to each party after the close
  pub too_much : answer (tallied pool reporting).state request26 ≡ denied 41 8 3
  pub held : holdings_after deploying ≡ 4 ∷ 3 ∷ []
  pub due_pool : due_after deploying 0 ≡ pos 0
  pub due_first : due_after deploying 1 ≡ pos 76000
  pub due_second : due_after deploying 2 ≡ pos 56000
  pub due_third : due_after deploying 3 ≡ neg_ℤ (pos 132000)
  -- the same with a miss: party 1 is charged 50,000, and its make-whole of 61,600 makes up for the energy that it did not sell
  pub missed_pool : due_after missing 0 ≡ pos 50000
  pub missed_first : due_after missing 1 ≡ pos 26000
  pub missed_second : due_after missing 2 ≡ pos 56000
  pub missed_third : due_after missing 3 ≡ neg_ℤ (pos 132000)
