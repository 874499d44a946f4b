-- A worked hour of four parties: what calls leave of entries, allotment, pairs, deployments and misses. Assumes nothing.
use Rattle.std.specs.Prelude.{◌≡◌, ℕ, true, List, [], ◌∷◌, map, pos, neg_ℤ}
use Rattle.std.specs.List.{range_with_len}
use Rattle.tariff.specs.Division.{Division}
use Rattle.tariff.specs.declared.blocks.DayKind.TheVariants.{Workday}
use Rattle.tariff.specs.declared.charges.Cover.TheVariants.{Covered, Uncovered}
use Rattle.tally.specs.Allotment.{surplus, shortfall, counted_offer}
use Rattle.tally.specs.Events.{Event, open_day, enter_result, enter_offer, enter_request, allot_hour, deploy, enter_miss}
use Rattle.tally.specs.Hours.{Hour}
use Rattle.tally.specs.Pairs.{pair, delivered, declined}
use Rattle.tally.specs.States.{SetUp, hour_at}
use Rattle.tally.specs.Tally.{tallied}

-- a pool of four parties
abbrev pub four : SetUp
four = record { parties = 4; full = 20000; step = 15000 }

-- an hour after a list of calls, of which the newest stands first
abbrev pub after : List Event → ℕ → Hour
after events hour = hour_at (tallied four events).state hour

-- figures of the four parties, and of the sellers 1 and 2 with the buyers 3 and 4
abbrev pub by_party : {A : Type 0} → (ℕ → A) → List A
by_party f = map f (range_with_len 1 4)

abbrev pub by_pair : {A : Type 0} → (ℕ → ℕ → A) → List (List A)
by_pair f = map (λ seller. map (f seller) (range_with_len 3 2)) (range_with_len 1 2)

-- rules that tell the total and the claims that they are handed, and that give what is listed
abbrev pub telling : Division
telling amount claims = amount ∷ claims

abbrev pub giving : List ℕ → Division
giving shares amount claims = shares

-- surpluses 1 and 3, shortfalls 20 and 5; parties 1, 2 and 4 offer 6, 4 and 9; then parties 3 and 4 request some MW
abbrev pub offering : List Event
offering =
    enter_offer (pos 8) (pos 4) (pos 9)
    ∷ enter_offer (pos 8) (pos 2) (pos 4)
    ∷ enter_offer (pos 8) (pos 1) (pos 6)
    ∷ enter_result (pos 8) (pos 4) (neg_ℤ (pos 5))
    ∷ enter_result (pos 8) (pos 3) (neg_ℤ (pos 20))
    ∷ enter_result (pos 8) (pos 2) (pos 3)
    ∷ enter_result (pos 8) (pos 1) (pos 1)
    ∷ open_day (pos 1) Workday (pos 1)
    ∷ []

abbrev pub requesting : (third fourth : ℕ) → List Event
requesting third fourth = enter_request (pos 8) (pos 4) (pos fourth) ∷ enter_request (pos 8) (pos 3) (pos third) ∷ offering

abbrev pub allotted : (third fourth : ℕ) → Hour
allotted third fourth = after (allot_hour (pos 8) 10 telling ∷ requesting third fourth) 8

-- parties 1 and 2 hold 5 and 4 MW, for 6 and 3 of parties 3 and 4; of these 4, 1 and 2 are to be delivered; of these 3 and 1 are missed
abbrev pub holding : List Event
holding = allot_hour (pos 8) 10 (giving (5 ∷ 4 ∷ [])) ∷ requesting 6 3

abbrev pub deploying : List Event
deploying = deploy (pos 8) (pos 4) (pos 2) 10 (giving (0 ∷ 2 ∷ [])) ∷ deploy (pos 8) (pos 3) (pos 5) 10 (giving (4 ∷ 1 ∷ [])) ∷ holding

abbrev pub missing : List Event
missing = enter_miss (pos 8) (pos 2) (pos 4) (pos 1) Uncovered ∷ enter_miss (pos 8) (pos 1) (pos 3) (pos 3) Covered ∷ deploying

-- a smaller deployment of party 3, and other misses with party 3
abbrev pub deployed_again : Hour
deployed_again = after (deploy (pos 8) (pos 3) (pos 3) 10 (giving (3 ∷ 0 ∷ [])) ∷ missing) 8

abbrev pub missed_again : Hour
missed_again =
    after (enter_miss (pos 8) (pos 2) (pos 3) (pos 1) Covered ∷ enter_miss (pos 8) (pos 1) (pos 3) (pos 2) Uncovered ∷ missing) 8

pub record WorkedHours : Type 0 where
  -- entries stand beside one another, in their hour alone
  pub results : by_party (after (requesting 9 1) 8).results ≡ pos 1 ∷ pos 3 ∷ neg_ℤ (pos 20) ∷ neg_ℤ (pos 5) ∷ []
  pub offers : by_party (after (requesting 9 1) 8).offers ≡ 6 ∷ 4 ∷ 0 ∷ 9 ∷ []
  pub requests : by_party (after (requesting 9 1) 8).requests ≡ 0 ∷ 0 ∷ 9 ∷ 1 ∷ []
  pub other_hour : by_party (after (requesting 9 1) 9).requests ≡ 0 ∷ 0 ∷ 0 ∷ 0 ∷ []
  -- they take the place of the earlier one; a result sets its party's request to 0, also where it is the same
  pub offer_again : by_party (after (enter_offer (pos 8) (pos 1) (pos 7) ∷ requesting 9 1) 8).offers ≡ 7 ∷ 4 ∷ 0 ∷ 9 ∷ []
  pub request_again : by_party (after (enter_request (pos 8) (pos 3) (pos 5) ∷ requesting 9 1) 8).requests ≡ 0 ∷ 0 ∷ 5 ∷ 1 ∷ []
  pub result_again : by_party (after (enter_result (pos 8) (pos 3) (neg_ℤ (pos 20)) ∷ requesting 9 1) 8).requests ≡ 0 ∷ 0 ∷ 0 ∷ 1 ∷ []
  pub surpluses : by_party (surplus (after offering 8)) ≡ 1 ∷ 3 ∷ 0 ∷ 0 ∷ []
  pub shortfalls : by_party (shortfall (after offering 8)) ≡ 0 ∷ 0 ∷ 20 ∷ 5 ∷ []
  -- party 4's offer counts as long as it requests nothing
  pub counted : by_party (counted_offer (after (requesting 9 0) 8)) ≡ 6 ∷ 4 ∷ 0 ∷ 9 ∷ []
  pub uncounted : by_party (counted_offer (after (requesting 9 1) 8)) ≡ 6 ∷ 4 ∷ 0 ∷ 0 ∷ []
  -- requests of 9, and of 10, are divided among the counted offers, which are 10; of 11 the offers are held whole, and the
  -- last one is divided among the surpluses; without a request nothing is held
  pub offers_divided : by_party (allotted 8 1).holdings ≡ 9 ∷ 6 ∷ 4 ∷ 0 ∷ []
  pub offers_used_up : by_party (allotted 9 1).holdings ≡ 10 ∷ 6 ∷ 4 ∷ 0 ∷ []
  pub surpluses_divided : by_party (allotted 10 1).holdings ≡ 7 ∷ 5 ∷ 3 ∷ 0 ∷ []
  pub nothing_held : by_party (allotted 0 0).holdings ≡ 0 ∷ 0 ∷ 0 ∷ 0 ∷ []
  pub is_allotted : (allotted 0 0).allotted ≡ true
  -- party 2 holds for both buyers; 2 MWh would be divided among the pairs with party 3, which are 5 and 1
  pub pairs : by_pair (pair (after holding 8)) ≡ (5 ∷ 0 ∷ []) ∷ (1 ∷ 3 ∷ []) ∷ []
  pub divided : by_pair (after (deploy (pos 8) (pos 3) (pos 2) 10 telling ∷ holding) 8).deployed ≡ (2 ∷ 0 ∷ []) ∷ (5 ∷ 0 ∷ []) ∷ []
  pub deployments : by_pair (after missing 8).deployed ≡ (4 ∷ 0 ∷ []) ∷ (1 ∷ 2 ∷ []) ∷ []
  pub misses : by_pair (after missing 8).missed ≡ (3 ∷ 0 ∷ []) ∷ (0 ∷ 1 ∷ []) ∷ []
  pub covers : by_pair (after missing 8).cover ≡ (Covered ∷ Covered ∷ []) ∷ (Covered ∷ Uncovered ∷ []) ∷ []
  pub deliveries : by_pair (delivered (after missing 8)) ≡ (1 ∷ 0 ∷ []) ∷ (1 ∷ 1 ∷ []) ∷ []
  pub declines : by_pair (declined (after missing 8)) ≡ (1 ∷ 0 ∷ []) ∷ (0 ∷ 1 ∷ []) ∷ []
  -- a deployment of party 3 sets its pairs' misses to 0, and leaves those of party 4; a miss takes its pair's place alone
  pub redeployments : by_pair deployed_again.deployed ≡ (3 ∷ 0 ∷ []) ∷ (0 ∷ 2 ∷ []) ∷ []
  pub misses_gone : by_pair deployed_again.missed ≡ (0 ∷ 0 ∷ []) ∷ (0 ∷ 1 ∷ []) ∷ []
  pub miss_replaced : by_pair missed_again.missed ≡ (2 ∷ 0 ∷ []) ∷ (1 ∷ 1 ∷ []) ∷ []
  pub cover_replaced : by_pair missed_again.cover ≡ (Uncovered ∷ Covered ∷ []) ∷ (Covered ∷ Uncovered ∷ []) ∷ []
