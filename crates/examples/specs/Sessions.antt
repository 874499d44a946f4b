-- The calls of worked sessions, and what they come to. Assumes nothing.
use Rattle.std.specs.Prelude.{ℕ, List, [], ◌∷◌, map, ℤ, pos, neg_ℤ, Some, None}
use Rattle.std.specs.List.{range_with_len}
use Rattle.tariff.specs.Answers.{Answer}
use Rattle.tariff.specs.Tables.{Tables}
use Rattle.tariff.specs.declared.blocks.DayKind.TheVariants.{Workday}
use Rattle.tariff.specs.declared.charges.Cover.TheVariants.{Covered}
use Rattle.rules.specs.LargestRemainder.{largest}
use Rattle.tally.specs.Denials.{answer}
use Rattle.tally.specs.Events.{Event, open_day, enter_result, enter_offer, enter_request, allot_hour, deploy, enter_miss, close_day}
use Rattle.tally.specs.States.{SetUp, hour_at}
use Rattle.tally.specs.Statements.{due}
use Rattle.tally.specs.Tally.{tallied}
use Rattle.tally.specs.WorkedPool.{day_tables, by_hour}

-- a pool of three parties; in every list of calls the newest stands first
abbrev pub pool : SetUp
pool = record { parties = 3; full = 10000000; step = 1530200 }

abbrev pub allot : Event
allot = allot_hour (pos 8) 10 largest

-- offers 6 and 4, surpluses 1 and 3 in hour 8; party 3 requests some MW
abbrev pub offering : ℕ → List Event
offering mw =
    enter_request (pos 8) (pos 3) (pos mw)
    ∷ enter_result (pos 8) (pos 3) (neg_ℤ (pos 20))
    ∷ enter_offer (pos 8) (pos 2) (pos 4)
    ∷ enter_offer (pos 8) (pos 1) (pos 6)
    ∷ enter_result (pos 8) (pos 2) (pos 3)
    ∷ enter_result (pos 8) (pos 1) (pos 1)
    ∷ open_day (pos 1) Workday (pos 1)
    ∷ []

-- what the allot then answers, and the holdings of parties 1 and 2 after it
abbrev pub allot_answered : ℕ → Answer
allot_answered mw = answer (tallied pool (offering mw)).state allot

abbrev pub holdings_after : List Event → List ℕ
holdings_after events = map (hour_at (tallied pool events).state 8).holdings (range_with_len 1 2)

-- results 30, 20 and −25 in hour 8
abbrev pub reporting : List Event
reporting =
    enter_result (pos 8) (pos 3) (neg_ℤ (pos 25))
    ∷ enter_result (pos 8) (pos 2) (pos 20)
    ∷ enter_result (pos 8) (pos 1) (pos 30)
    ∷ open_day (pos 1) Workday (pos 1)
    ∷ []

-- party 3's request for 26 is one too many; it requests 7 and deploys 5
abbrev pub request26 : Event
request26 = enter_request (pos 8) (pos 3) (pos 26)

abbrev pub deploying : List Event
deploying =
    deploy (pos 8) (pos 3) (pos 5) 10 largest
    ∷ allot
    ∷ enter_request (pos 8) (pos 3) (pos 7)
    ∷ request26
    ∷ reporting

-- 2 of party 1's 3 MWh are missed, and covered by others
abbrev pub missing : List Event
missing = enter_miss (pos 8) (pos 1) (pos 3) (pos 2) Covered ∷ deploying

-- the prices of the worked day, without real-time prices and factors at night
abbrev pub session_tables : Tables
session_tables = record day_tables {
  real_time = λ day hour. by_hour (Some (pos 4000)) None hour;
  factor = λ day hour. by_hour (Some 12000) None hour;
}

-- what is due to an account after the day's close
abbrev pub due_after : List Event → ℕ → ℤ
due_after events account = due 3 (tallied pool (close_day session_tables 10 (λ turn. largest) 144 144 ∷ events)).statements account
