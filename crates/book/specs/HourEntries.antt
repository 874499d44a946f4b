-- What an hour does with an entry. Assumes nothing.
use Rattle.std.specs.Prelude.{◌≡◌, ℕ, ◌≤◌, Bool, true, false, if◌then◌else◌, not, ℤ, ◌==◌, nat_le, unsigned_abs}
use Rattle.std.specs.List.{All}
use Rattle.tariff.specs.Answers.{Answer, granted, require, ◌then◌}
use Rattle.tariff.specs.Division.{Division, Moves, Moved, division_answer}
use Rattle.tariff.specs.declared.refusal.Refusal.TheVariants.{HourAllotted, HourNotAllotted, AboveShortfall, AboveDeployment}
use Rattle.tariff.specs.declared.refusal.Refusal.TheVariants.{AboveRequest}
use Rattle.tally.specs.Allotment.{shortfall, supply_answer, requested, allot_total, allot_claims, allotment}
use Rattle.tally.specs.Denials.{most_mw}
use Rattle.tally.specs.Hours.{Hour, with_result, with_offer, with_request, with_holdings, with_deployment, with_miss}
use Rattle.tally.specs.Numbered.{numbered, replaced}
use Rattle.tally.specs.Pairs.{served, pairs_of, deploy_answer}
use Rattle.tally.specs.States.{State, hour_at}
use Rattle.book.specs.Led.{Laid}
use Rattle.book.specs.Records.{hours_of}
use Rattle.book.specs.RuleMoves.{AllotMoved}
use Rattle.book.specs.declared.records.DayRecord.{DayRecord}
use Rattle.book.specs.declared.hours.HourEntry.{HourEntry}
use Rattle.book.specs.declared.hours.HourEntry.TheVariants.{Result, Offer, Request, Allot, Deploy, Miss}

-- deployments and misses come after their hour's allot, the other entries before it
abbrev pub comes_after_allot : HourEntry → Bool
comes_after_allot (Deploy buyer mw) = true
comes_after_allot (Miss seller buyer mwh cover) = true
comes_after_allot _ = false

-- An entry is admitted by whether its hour was allotted, and then by its figure: a request by its party's shortfall, an
-- allot by what there is, a deployment by its buyer's request, a miss by its pair's deployment.
abbrev pub admitted : (parties number : ℕ) → HourEntry → Hour → Answer
admitted parties number (Result party mw) hour = require (not hour.allotted) (HourAllotted number)
admitted parties number (Offer party mw) hour = require (not hour.allotted) (HourAllotted number)
admitted parties number (Request party mw) hour =
    require (not hour.allotted) (HourAllotted number)
    then require (nat_le mw (shortfall hour party)) (AboveShortfall number party)
admitted parties number Allot hour = require (not hour.allotted) (HourAllotted number) then supply_answer parties hour number
admitted parties number (Deploy buyer mw) hour =
    require hour.allotted (HourNotAllotted number)
    then require (nat_le mw (served hour buyer)) (AboveRequest number buyer)
admitted parties number (Miss seller buyer mwh cover) hour =
    require hour.allotted (HourNotAllotted number)
    then require (nat_le mwh (hour.deployed seller buyer)) (AboveDeployment seller buyer)

-- What a rule then answers: it is asked by an allot with requests and by a deployment alone.
abbrev pub asked_answer : (parties most : ℕ) → HourEntry → Hour → Answer
asked_answer parties most Allot hour =
    if requested parties hour == 0 then granted
    else division_answer most (allot_total parties hour) (allot_claims parties hour) parties
asked_answer parties most (Deploy buyer mw) hour = deploy_answer parties hour most buyer mw
asked_answer parties most _ hour = granted

-- what each seller is to hold by an allot, or to deliver by a deployment; another entry gives none anything
abbrev pub parts_by : ℕ → Division → HourEntry → Hour → ℕ → ℕ
parts_by parties rule Allot hour = allotment parties hour rule
parts_by parties rule (Deploy buyer mw) hour = numbered (rule mw (pairs_of parties hour buyer))
parts_by parties rule _ hour = λ party. 0

-- how the rule moves
abbrev pub PartsMoved : Moves → Answer → ℕ → HourEntry → Hour → (before after : Division) → Type 0
PartsMoved moves answered parties Allot hour before after = AllotMoved moves answered parties hour before after
PartsMoved moves answered parties (Deploy buyer mw) hour before after =
    Moved moves answered before mw (pairs_of parties hour buyer) after
PartsMoved moves answered parties _ hour before after = after ≡ before

-- what an entry makes of its hour
abbrev pub written : HourEntry → (ℕ → ℕ) → Hour → Hour
written (Result party mw) parts = with_result party mw
written (Offer party mw) parts = with_offer party mw
written (Request party mw) parts = with_request party mw
written Allot parts = with_holdings parts
written (Deploy buyer mw) parts = with_deployment buyer parts
written (Miss seller buyer mwh cover) parts = with_miss seller buyer mwh cover

-- the figures that an allot sums, as calls leave them
abbrev pub SmallHour : Hour → Type 0
SmallHour hour = (party : ℕ) → (hour.offers party ≤ most_mw) × (hour.requests party ≤ most_mw)

-- One hour of a day changed: that hour's figures, by number, and nothing else of the day. Pairs stay laid.
pub record Changed (hour : ℕ) (change : Hour → Hour) (before after : DayRecord) : Type 0 where
  pub hours : hours_of after.hours ≡ replaced (hours_of before.hours) hour (change (hours_of before.hours hour))
  pub rest : after ≡ record before { hours = after.hours }
  pub laid : All Laid before.hours → All Laid after.hours

-- what was found of an entry is its hour and the entry, and the hour is one in which it comes
pub record Admitted (state : State) (hour : ℤ) (entry : HourEntry) (found : ℕ × HourEntry) : Type 0 where
  pub hour_is : found.0 ≡ unsigned_abs hour
  pub entry_is : found.1 ≡ entry
  pub stage : (hour_at state found.0).allotted ≡ comes_after_allot found.1
