-- What every list of calls keeps of an hour: its pairs, deployments and misses. Assumes nothing.
use Rattle.std.specs.Prelude.{◌≡◌, ℕ, ◌+◌, ◌≤◌, true, ℤ, unsigned_abs}
use Rattle.tariff.specs.Answers.{granted}
use Rattle.tariff.specs.Division.{Division, LawfulRule}
use Rattle.tally.specs.Allotment.{counted_offer, surplus}
use Rattle.tally.specs.Denials.{answer}
use Rattle.tally.specs.Events.{Event, deploy}
use Rattle.tally.specs.Hours.{Hour}
use Rattle.tally.specs.Laws.{Always}
use Rattle.tally.specs.Numbered.{total}
use Rattle.tally.specs.Pairs.{pair}
use Rattle.tally.specs.States.{State, IsParty, hour_at, hour_named}
use Rattle.tally.specs.Tally.{Tally, tell}

-- Pairs of an allotted hour: every buyer's add up to its confirmed request and every seller's to its holding, which
-- stays within its counted offer plus surplus.
pub record Met (state : State) (hour : Hour) : Type 0 where
  pub buyers : (buyer : ℕ) → IsParty state buyer → total (λ seller. pair hour seller buyer) state.set_up.parties ≡ hour.requests buyer
  pub sellers : (seller : ℕ) → IsParty state seller → total (pair hour seller) state.set_up.parties ≡ hour.holdings seller
  pub within : (seller : ℕ) → IsParty state seller → hour.holdings seller ≤ counted_offer hour seller + surplus hour seller

abbrev pub PairsMeet : Type 0
PairsMeet = Always (λ tally. (hour : ℕ) → (hour_at tally.state hour).allotted ≡ true → Met tally.state (hour_at tally.state hour))

-- While a day is open, a call that leaves an hour allotted leaves its entries as they were, the allot among them, and
-- an allotted hour keeps its holdings: confirmed requests, counted offers and surpluses are those of the allot.
pub record Standing (old new : Hour) : Type 0 where
  pub results : new.allotted ≡ true → new.results ≡ old.results
  pub offers : new.allotted ≡ true → new.offers ≡ old.offers
  pub requests : new.allotted ≡ true → new.requests ≡ old.requests
  pub allotted : old.allotted ≡ true → new.allotted ≡ true
  pub holdings : old.allotted ≡ true → new.holdings ≡ old.holdings

abbrev pub AllottedHoursStand : Type 0
AllottedHoursStand =
    Always (λ tally. (event : Event) (hour : ℕ) → tally.state.day.is_open ≡ true
    → Standing (hour_at tally.state hour) (hour_at (tell tally event).state hour))

-- What is deployed stays within its pair, and a miss never passes its deployment: so neither declined nor delivered
-- energy, which are differences, is cut off at 0.
pub record Ordered (hour : Hour) : Type 0 where
  pub deployments : (seller buyer : ℕ) → hour.deployed seller buyer ≤ pair hour seller buyer
  pub misses : (seller buyer : ℕ) → hour.missed seller buyer ≤ hour.deployed seller buyer

abbrev pub MissesWithinDeployments : Type 0
MissesWithinDeployments = Always (λ tally. (hour : ℕ) → Ordered (hour_at tally.state hour))

-- A deployment is divided whole: what a buyer's sellers are to deliver after it adds up to it.
abbrev pub deployed_for : Tally → (hour buyer : ℤ) → ℕ → ℕ
deployed_for tally hour buyer seller = (hour_named tally.state hour).deployed seller (unsigned_abs buyer)

abbrev pub DeploymentsDivided : Type 0
DeploymentsDivided =
    Always (λ tally. (hour buyer mw : ℤ) (most : ℕ) (meaning : Division) → LawfulRule most meaning
    → answer tally.state (deploy hour buyer mw most meaning) ≡ granted
    → total (deployed_for (tell tally (deploy hour buyer mw most meaning)) hour buyer) tally.state.set_up.parties ≡ unsigned_abs mw)
