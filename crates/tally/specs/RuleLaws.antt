-- What every list of calls keeps of the totals and claims that it hands to a division rule. Assumes nothing.
use Rattle.std.specs.Prelude.{◌≡◌, ℕ, ◌<◌, ◌≤◌, true, List, length, sum}
use Rattle.tariff.specs.Answers.{granted, denied}
use Rattle.tariff.specs.Division.{all_within, most_places, most_total}
use Rattle.tariff.specs.Tables.{Tables, Limited}
use Rattle.tariff.specs.declared.blocks.Block.{Block}
use Rattle.tally.specs.Allotment.{supply_answer, allot_total, allot_claims}
use Rattle.tally.specs.DayPrices.{needed_prices}
use Rattle.tally.specs.Denials.{answer}
use Rattle.tally.specs.Events.{Event, allot_hour, deploy, close_day, Lawfully}
use Rattle.tally.specs.Laws.{Always}
use Rattle.tally.specs.MakeWhole.{make_whole_claims}
use Rattle.tally.specs.Pairs.{served, pairs_of}
use Rattle.tally.specs.Settlement.{make_whole}
use Rattle.tally.specs.States.{State, IsParty, hour_at}

-- What is handed to a rule is within its limits: as many claims as places for shares, not too many and none too large;
-- and a total that is not too large, with a claim above 0 where it is above 0.
pub record Handed (total : ℕ) (claims : List ℕ) (places : ℕ) : Type 0 where
  pub equal : length claims ≡ places
  pub few : places ≤ most_places
  pub small : total ≤ most_total
  pub within : all_within claims ≡ true
  pub claimed : 0 < total → 0 < sum claims

-- what each call that asks a rule hands to it, once the tests before are passed
pub record HandsOver (state : State) : Type 0 where
  pub allots : (hour : ℕ) → supply_answer state.set_up.parties (hour_at state hour) hour ≡ granted
      → Handed (allot_total state.set_up.parties (hour_at state hour)) (allot_claims state.set_up.parties (hour_at state hour))
      state.set_up.parties
  pub deployments : (hour buyer mw : ℕ) → IsParty state buyer
      → (hour_at state hour).allotted ≡ true → mw ≤ served (hour_at state hour) buyer
      → Handed mw (pairs_of state.set_up.parties (hour_at state hour) buyer) state.set_up.parties
  pub make_wholes : (tables : Tables) → Limited tables → (block : Block) (seller : ℕ) → IsParty state seller
      → Handed (make_whole state (needed_prices state tables) block seller) (make_whole_claims state block seller) state.set_up.parties

abbrev pub HandedWithinLimits : Type 0
HandedWithinLimits = Always (λ tally. HandsOver tally.state)

-- how many claims above 0 the rule takes that a call is given
abbrev pub most_of : Event → ℕ
most_of (allot_hour hour most meaning) = most
most_of (deploy hour buyer mw most meaning) = most
most_of (close_day tables most meanings heavy_page light_page) = most
most_of _ = 0

-- too many claims: so many above 0, which are more than the rule takes
pub record TooMany (most number count limit : ℕ) : Type 0 where
  pub told : number ≡ 73
  pub stated : limit ≡ most
  pub above : limit < count

-- So of a rule's refusals, which are those from 70 on, only that for too many claims can come out of a call.
abbrev pub OnlyClaimCountsRefused : Type 0
OnlyClaimCountsRefused =
    Always (λ tally. (event : Event) → Lawfully event → (number first second : ℕ)
    → answer tally.state event ≡ denied number first second → 70 ≤ number → TooMany (most_of event) number first second)
