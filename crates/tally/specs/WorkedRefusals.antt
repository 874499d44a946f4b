-- Worked refusals: each call meets each of its refusals, most of them at the edge of a limit; 73 of a close is shown at the
-- tests of its divisions. Assumes nothing.
use Rattle.std.specs.Prelude.{◌≡◌, ℕ, if◌then◌else◌, List, [], ◌∷◌, map, pos, neg_ℤ, None, Option, ◌==◌}
use Rattle.tariff.specs.Answers.{Answer, granted, denied, in_order}
use Rattle.tariff.specs.Blocks.{hours_of_day, same_block}
use Rattle.tariff.specs.Division.{Division}
use Rattle.tariff.specs.Tables.{Tables}
use Rattle.tariff.specs.declared.blocks.Block.{Block}
use Rattle.tariff.specs.declared.blocks.Block.TheVariants.{Heavy, Light}
use Rattle.tariff.specs.declared.blocks.DayKind.TheVariants.{Workday}
use Rattle.tariff.specs.declared.charges.Cover.TheVariants.{Covered}
use Rattle.tally.specs.DayPrices.{needed_prices, needed_quotes_answer}
use Rattle.tally.specs.Denials.{answer}
use Rattle.tally.specs.Events.{Event, open_day, enter_result, enter_offer, enter_request, allot_hour, deploy, enter_miss}
use Rattle.tally.specs.Events.{close_day, void_day, start_year}
use Rattle.tally.specs.Hours.{with_result, with_offer, with_request}
use Rattle.tally.specs.MakeWhole.{sharings_answer}
use Rattle.tally.specs.States.{State, set_up_answer, fresh, fresh_year, on_hour, shut}
use Rattle.tally.specs.Tally.{opened}
use Rattle.tally.specs.WorkedPool.{three, day_tables, dear_tables, negative_tables, day_of, quiet_day, second_day, one_missed, missed_night}

-- three parties: no day yet; day 5 of month 3 open, and closed again
abbrev pub no_day : State
no_day = fresh three

abbrev pub fifth_day : State
fifth_day = opened 5 Workday 3 no_day

abbrev pub fifth_day_shut : State
fifth_day_shut = record fifth_day { day = shut fifth_day.day }

-- the rows of a table: calls, each with its answer
infix 70 ◌gives◌
abbrev pub ◌gives◌ : Event → Answer → Event × Answer
event gives answer = (event, answer)

abbrev pub Answered : State → List (Event × Answer) → Type 0
Answered state table = map (λ row. answer state row.0) table ≡ map (λ row. row.1) table

-- in hour 9 parties 1 and 2 offer 6 and 4, party 1 has a surplus of 2, and party 3 lacks 25, of which it requests some
abbrev pub offering : ℕ → State
offering mw =
    on_hour 9
    (λ hour. with_request 3 mw (with_offer 2 4 (with_offer 1 6 (with_result 3 (neg_ℤ (pos 25)) (with_result 1 (pos 2) hour)))))
    quiet_day

-- the same hour without offers, where parties 1 and 2 have surpluses of 30 and 20
abbrev pub reporting : State
reporting =
    on_hour 9 (λ hour. with_request 3 7 (with_result 3 (neg_ℤ (pos 25)) (with_result 2 (pos 20) (with_result 1 (pos 30) hour)))) quiet_day

-- a rule's meaning does not matter to what is refused
abbrev pub any : Division
any amount claims = []

-- no prices at all; and those of the worked day without the factor of an hour, and without its real-time price besides
abbrev pub no_quotes : Tables
no_quotes = record { day_ahead = λ day block. None; real_time = λ day hour. None; factor = λ day hour. None }

abbrev pub without : {A : Type 0} → ℕ → (ℕ → ℕ → Option A) → ℕ → ℕ → Option A
without missing table day hour = if hour == missing then None else table day hour

abbrev pub no_factor : ℕ → Tables
no_factor hour = record day_tables { factor = without hour day_tables.factor }

abbrev pub no_real_time : ℕ → Tables
no_real_time hour = record (no_factor hour) { real_time = without hour day_tables.real_time }

-- with the day-ahead price of one block alone
abbrev pub one_block : Block → Tables
one_block block = record day_tables { day_ahead = λ day b. if same_block b block then day_tables.day_ahead day b else None }

abbrev pub closing : Tables → (most heavy_page light_page : ℕ) → Event
closing tables most heavy_page light_page = close_day tables most (λ turn. any) heavy_page light_page

pub record WorkedRefusals : Type 0 where
  pub set_up_one : set_up_answer (pos 1) (pos 1) (pos 1) ≡ denied 21 0 0
  pub set_up_thirteen : set_up_answer (pos 13) (pos 1) (pos 1) ≡ denied 21 0 0
  pub set_up_step : set_up_answer (pos 2) (pos 1) (pos 2) ≡ denied 22 0 0
  pub set_up_negative : set_up_answer (pos 2) (pos 1) (neg_ℤ (pos 1)) ≡ denied 22 0 0
  pub set_up_full : set_up_answer (pos 2) (pos 100000001) (pos 1) ≡ denied 22 0 0
  pub set_up_least : set_up_answer (pos 2) (pos 0) (pos 0) ≡ granted
  pub set_up_most : set_up_answer (pos 12) (pos 100000000) (pos 100000000) ≡ granted
  pub opens_first : Answered no_day (
      open_day (pos 0) Workday (pos 1) gives denied 33 1 0
      ∷ open_day (pos 1) Workday (pos 0) gives denied 34 3 0
      ∷ open_day (pos 1) Workday (pos 1) gives granted
      ∷ [])
  pub opens_later : Answered fifth_day_shut (
      open_day (pos 5) Workday (pos 2) gives denied 33 1 0
      ∷ open_day (pos 4001) Workday (pos 13) gives denied 33 1 0
      ∷ open_day (pos 6) Workday (pos 2) gives denied 34 3 0
      ∷ open_day (pos 6) Workday (pos 13) gives denied 34 3 0
      ∷ open_day (pos 6) Workday (pos 3) gives granted
      ∷ open_day (pos 4000) Workday (pos 12) gives granted
      ∷ [])
  -- what is wrong besides is not told
  pub results : Answered quiet_day (
      enter_result (pos 0) (pos 0) (pos 0) gives denied 35 1 0
      ∷ enter_result (pos 25) (pos 4) (pos 5001) gives denied 35 1 0
      ∷ enter_result (pos 1) (pos 0) (pos 5001) gives denied 36 2 0
      ∷ enter_result (pos 24) (pos 4) (pos 5001) gives denied 36 2 0
      ∷ enter_result (pos 8) (pos 3) (pos 5001) gives denied 37 3 0
      ∷ enter_result (pos 8) (pos 3) (neg_ℤ (pos 5001)) gives denied 37 3 0
      ∷ enter_result (pos 8) (pos 1) (pos 0) gives denied 38 8 0
      ∷ enter_result (pos 1) (pos 1) (neg_ℤ (pos 5000)) gives granted
      ∷ enter_result (pos 24) (pos 3) (pos 5000) gives granted
      ∷ [])
  pub offers : Answered quiet_day (
      enter_offer (pos 0) (pos 0) (pos 0) gives denied 35 1 0
      ∷ enter_offer (pos 25) (pos 4) (pos 5001) gives denied 35 1 0
      ∷ enter_offer (pos 1) (pos 0) (pos 5001) gives denied 36 2 0
      ∷ enter_offer (pos 1) (pos 4) (neg_ℤ (pos 1)) gives denied 36 2 0
      ∷ enter_offer (pos 8) (pos 1) (neg_ℤ (pos 1)) gives denied 37 3 0
      ∷ enter_offer (pos 8) (pos 1) (pos 5001) gives denied 37 3 0
      ∷ enter_offer (pos 8) (pos 1) (pos 1) gives denied 38 8 0
      ∷ enter_offer (pos 1) (pos 1) (pos 5000) gives granted
      ∷ enter_offer (pos 24) (pos 3) (pos 0) gives granted
      ∷ [])
  -- a request is at most the shortfall, which a party without a negative result has none of
  pub requests : Answered (offering 0) (
      enter_request (pos 0) (pos 0) (pos 0) gives denied 35 1 0
      ∷ enter_request (pos 25) (pos 4) (pos 5001) gives denied 35 1 0
      ∷ enter_request (pos 9) (pos 0) (pos 5001) gives denied 36 2 0
      ∷ enter_request (pos 9) (pos 4) (neg_ℤ (pos 1)) gives denied 36 2 0
      ∷ enter_request (pos 8) (pos 3) (neg_ℤ (pos 1)) gives denied 37 3 0
      ∷ enter_request (pos 8) (pos 3) (pos 5001) gives denied 37 3 0
      ∷ enter_request (pos 8) (pos 3) (pos 26) gives denied 38 8 0
      ∷ enter_request (pos 9) (pos 3) (pos 26) gives denied 41 9 3
      ∷ enter_request (pos 9) (pos 1) (pos 1) gives denied 41 9 1
      ∷ enter_request (pos 9) (pos 3) (pos 25) gives granted
      ∷ enter_request (pos 9) (pos 1) (pos 0) gives granted
      ∷ [])
  pub allots : Answered quiet_day (
      allot_hour (pos 0) 10 any gives denied 35 1 0
      ∷ allot_hour (pos 8) 10 any gives denied 38 8 0
      ∷ allot_hour (pos 24) 0 any gives granted
      ∷ [])
  -- without a request the rule is not asked, and for a single MW it is
  pub allots_none : Answered (offering 0) (
      allot_hour (pos 9) 0 any gives granted
      ∷ [])
  pub allots_one : Answered (offering 1) (
      allot_hour (pos 9) 1 any gives denied 73 2 1
      ∷ [])
  -- offers of 10 meet requests of 10, by two claims
  pub allots_ten : Answered (offering 10) (
      allot_hour (pos 9) 1 any gives denied 73 2 1
      ∷ allot_hour (pos 9) 2 any gives granted
      ∷ [])
  -- 12 take the surplus, too, by one claim, and 13 are one too many
  pub allots_twelve : Answered (offering 12) (
      allot_hour (pos 9) 0 any gives denied 73 1 0
      ∷ allot_hour (pos 9) 1 any gives granted
      ∷ [])
  pub allots_surplus : Answered reporting (
      allot_hour (pos 9) 1 any gives denied 73 2 1
      ∷ allot_hour (pos 9) 2 any gives granted
      ∷ [])
  pub allots_thirteen : Answered (offering 13) (
      allot_hour (pos 9) 0 any gives denied 61 9 1
      ∷ [])
  -- a deployment of 0 consults the rule, too
  pub deployments : Answered quiet_day (
      deploy (pos 0) (pos 0) (pos 0) 10 any gives denied 35 1 0
      ∷ deploy (pos 25) (pos 4) (pos 5001) 10 any gives denied 35 1 0
      ∷ deploy (pos 8) (pos 0) (pos 5001) 10 any gives denied 36 2 0
      ∷ deploy (pos 8) (pos 4) (neg_ℤ (pos 1)) 10 any gives denied 36 2 0
      ∷ deploy (pos 9) (pos 3) (neg_ℤ (pos 1)) 10 any gives denied 37 3 0
      ∷ deploy (pos 9) (pos 3) (pos 5001) 10 any gives denied 37 3 0
      ∷ deploy (pos 9) (pos 3) (pos 1) 10 any gives denied 39 9 0
      ∷ deploy (pos 8) (pos 3) (pos 8) 1 any gives denied 42 8 3
      ∷ deploy (pos 8) (pos 3) (pos 0) 1 any gives denied 73 2 1
      ∷ deploy (pos 8) (pos 3) (pos 7) 2 any gives granted
      ∷ [])
  -- a party has no pair with itself
  pub misses : Answered quiet_day (
      enter_miss (pos 0) (pos 0) (pos 0) (pos 0) Covered gives denied 35 1 0
      ∷ enter_miss (pos 25) (pos 4) (pos 4) (pos 5001) Covered gives denied 35 1 0
      ∷ enter_miss (pos 8) (pos 0) (pos 0) (pos 5001) Covered gives denied 36 2 0
      ∷ enter_miss (pos 8) (pos 4) (pos 4) (pos 0) Covered gives denied 36 2 0
      ∷ enter_miss (pos 8) (pos 1) (pos 0) (pos 5001) Covered gives denied 36 3 0
      ∷ enter_miss (pos 8) (pos 1) (pos 4) (neg_ℤ (pos 1)) Covered gives denied 36 3 0
      ∷ enter_miss (pos 9) (pos 1) (pos 3) (neg_ℤ (pos 1)) Covered gives denied 37 4 0
      ∷ enter_miss (pos 9) (pos 1) (pos 3) (pos 5001) Covered gives denied 37 4 0
      ∷ enter_miss (pos 9) (pos 1) (pos 3) (pos 1) Covered gives denied 39 9 0
      ∷ enter_miss (pos 8) (pos 1) (pos 3) (pos 4) Covered gives denied 51 1 3
      ∷ enter_miss (pos 8) (pos 3) (pos 3) (pos 1) Covered gives denied 51 3 3
      ∷ enter_miss (pos 8) (pos 3) (pos 3) (pos 0) Covered gives granted
      ∷ enter_miss (pos 8) (pos 1) (pos 3) (pos 3) Covered gives granted
      ∷ [])
  -- the heavy page comes first; a missing day-ahead price is missing in every hour of its block
  pub closes : Answered quiet_day (
      closing no_quotes 10 143 145 gives denied 25 143 0
      ∷ closing no_quotes 10 144 145 gives denied 25 145 0
      ∷ closing no_quotes 0 144 144 gives denied 66 7 1
      ∷ closing (no_real_time 10) 10 144 144 gives denied 66 10 2
      ∷ closing (no_real_time 8) 10 144 144 gives denied 66 8 2
      ∷ closing (no_factor 8) 10 144 144 gives denied 66 8 3
      ∷ [])
  -- a factor is needed in an hour in which a single MW is held, and in no other: not for what is only requested
  pub factor_needed : needed_quotes_answer (day_of fresh_year 8 one_missed) (no_factor 8) 8 ≡ denied 66 8 3
  pub factor_unneeded : in_order (needed_quotes_answer (offering 10) (no_factor 9)) hours_of_day ≡ granted
  -- each block's day-ahead price where it is held in that block
  pub heavy_needed : in_order (needed_quotes_answer quiet_day (one_block Heavy)) hours_of_day ≡ granted
  pub heavy_missing : in_order (needed_quotes_answer quiet_day (one_block Light)) hours_of_day ≡ denied 66 7 1
  pub light_needed : in_order (needed_quotes_answer (missed_night fresh_year) (one_block Light)) hours_of_day ≡ granted
  pub light_missing : in_order (needed_quotes_answer (missed_night fresh_year) (one_block Heavy)) hours_of_day ≡ denied 66 1 1
  -- party 1's make-whole has one claim, in the heavy block, and on another day in the light one
  pub sharing_denied : sharings_answer quiet_day (needed_prices quiet_day day_tables) 0 ≡ denied 73 1 0
  pub light_sharing_denied : sharings_answer (missed_night fresh_year) (needed_prices (missed_night fresh_year) day_tables) 0
      ≡ denied 73 1 0
  -- at a high real-time price nothing is lacking, so nothing is divided
  pub sharing_unneeded : sharings_answer quiet_day (needed_prices quiet_day dear_tables) 0 ≡ granted
  pub sharing_granted : sharings_answer quiet_day (needed_prices quiet_day day_tables) 1 ≡ granted
  -- the last hour counts, too
  pub closes_night : Answered (missed_night fresh_year) (
      closing (no_real_time 24) 10 144 144 gives denied 66 24 2
      ∷ [])
  -- a close asks for the open day's prices, and the worked prices are day 1's
  pub closes_later : Answered second_day (
      closing day_tables 10 144 144 gives denied 66 7 1
      ∷ closing (record negative_tables { real_time = day_tables.real_time }) 10 144 144 gives denied 66 7 2
      ∷ closing negative_tables 10 144 144 gives denied 66 8 3
      ∷ [])
  -- a day opened later has none of the hours of the one before: hour 8 is not allotted
  pub opened_later : Answered (opened 2 Workday 1 (record quiet_day { day = shut quiet_day.day })) (
      enter_offer (pos 8) (pos 1) (pos 1) gives granted
      ∷ deploy (pos 8) (pos 3) (pos 0) 10 any gives denied 39 8 0
      ∷ [])
  -- where nothing is held, no price is needed
  pub while_open : Answered fifth_day (
      open_day (pos 5) Workday (pos 2) gives denied 31 0 0
      ∷ start_year gives denied 31 0 0
      ∷ closing no_quotes 0 144 144 gives granted
      ∷ void_day gives granted
      ∷ [])
  pub while_shut : Answered no_day (
      enter_result (pos 0) (pos 0) (pos 5001) gives denied 32 0 0
      ∷ enter_offer (pos 0) (pos 0) (neg_ℤ (pos 1)) gives denied 32 0 0
      ∷ enter_request (pos 0) (pos 0) (neg_ℤ (pos 1)) gives denied 32 0 0
      ∷ allot_hour (pos 0) 10 any gives denied 32 0 0
      ∷ deploy (pos 0) (pos 0) (neg_ℤ (pos 1)) 10 any gives denied 32 0 0
      ∷ enter_miss (pos 0) (pos 0) (pos 0) (neg_ℤ (pos 1)) Covered gives denied 32 0 0
      ∷ closing day_tables 10 143 144 gives denied 25 143 0
      ∷ closing day_tables 10 144 145 gives denied 25 145 0
      ∷ closing day_tables 10 144 144 gives denied 32 0 0
      ∷ void_day gives denied 32 0 0
      ∷ start_year gives granted
      ∷ [])
