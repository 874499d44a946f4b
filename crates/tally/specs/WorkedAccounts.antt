-- Worked accounts: a set-up, the turns of a close, what a statement pays and takes, and what a year keeps. Assumes nothing.
use Rattle.std.specs.Prelude.{◌≡◌, ℕ, ◌*◌, false, if◌then◌else◌, List, [], ◌∷◌, length, map, ℤ, pos, neg_ℤ, ◌==◌}
use Rattle.std.specs.List.{range_with_len}
use Rattle.tariff.specs.declared.blocks.Block.{Block}
use Rattle.tariff.specs.declared.blocks.Block.TheVariants.{Heavy, Light}
use Rattle.tariff.specs.declared.charges.Cover.TheVariants.{Covered}
use Rattle.tariff.specs.Division.{Division}
use Rattle.tally.specs.DayPrices.{needed_prices}
use Rattle.tally.specs.Events.{close_day, void_day, start_year}
use Rattle.tally.specs.MakeWhole.{make_whole_share}
use Rattle.tally.specs.Numbered.{numbered}
use Rattle.tally.specs.States.{State, IsParty, set_up_of, fresh_year}
use Rattle.tally.specs.Statements.{Statement, paid_to, taken_from, net, due, charges_of}
use Rattle.tally.specs.Tally.{Tally, tell}
use Rattle.tally.specs.WorkedPool.{three, day_tables, day_of, met_hour, quiet_day, missed_day}
use Rattle.tally.specs.WorkedPool.{partly_held_day, missed_night, two_buyers_day}

-- a rule that gives back, in the places of shares, what it was asked: its turn, and the total and the claims
abbrev pub telling : ℕ → Division
telling turn amount claims = turn ∷ amount ∷ claims

-- what it is asked for a seller's make-whole
abbrev pub asked : State → Block → ℕ → List ℕ
asked state block seller = map (make_whole_share state (needed_prices state day_tables) telling block seller) (range_with_len 1 5)

-- a night in which party 2 holds 1 MW, and none of it is to be delivered
abbrev pub other_night : State
other_night = day_of fresh_year 24 (met_hour 1 (0 ∷ 1 ∷ []) [] [] Covered)

-- two parties that sell to one another, on both pages; a unit is 1 cent of holdback, 10 of energy, 100 of make-whole, and
-- 1,000 and 10,000 of charges to the pool and to the buyer
abbrev pub units : Block → (seller buyer : ℕ) → ℕ
units Heavy seller = numbered (if seller == 1 then 0 ∷ 1 ∷ [] else 3 ∷ 0 ∷ [])
units Light seller = numbered (if seller == 1 then 0 ∷ 2 ∷ [] else 4 ∷ 0 ∷ [])

abbrev pub statement : Statement
statement block seller buyer = record {
  holdback = pos (units block seller buyer);
  energy = pos (10 * units block seller buyer);
  make_whole = pos (100 * units block seller buyer);
  to_pool = pos (1000 * units block seller buyer);
  to_buyer = pos (10000 * units block seller buyer);
}

-- of the pool and both parties
abbrev pub by_account : (ℕ → ℤ) → List ℤ
by_account f = map f (range_with_len 0 3)

-- the worked day with its miss, then closed, then a year started; and the day dropped
abbrev pub unclosed : Tally
unclosed = record { state = missed_day Covered; statements = []; of_year = [] }

abbrev pub closed : Tally
closed = tell unclosed (close_day day_tables 10 (λ turn amount claims. []) 144 144)

abbrev pub started : Tally
started = tell closed start_year

abbrev pub voided : Tally
voided = tell unclosed void_day

-- of party 1: the last month, failure days, the miss in month 1, charges
abbrev pub year_figures : Tally → List ℕ
year_figures tally =
    tally.state.year.month ∷ tally.state.year.failure_days 1 ∷ tally.state.year.misses 1 1 ∷ tally.state.year.charges 1 ∷ []

-- how many statements there are, in all and of the year
abbrev pub filed_figures : Tally → List ℕ
filed_figures tally = length tally.statements ∷ length tally.of_year ∷ []

pub record WorkedAccounts : Type 0 where
  pub set_up : set_up_of (pos 3) (pos 20000) (pos 15000) ≡ three
  pub first_party : IsParty quiet_day 1
  pub last_party : IsParty quiet_day 3
  -- the heavy block's turns come first, and only a make-whole above 0 is divided; claims are the largest pairs
  pub first_turn : asked quiet_day Heavy 1 ≡ 0 ∷ 53600 ∷ 0 ∷ 0 ∷ 4 ∷ []
  pub second_turn : asked quiet_day Heavy 2 ≡ 1 ∷ 40200 ∷ 0 ∷ 0 ∷ 3 ∷ []
  pub not_divided : asked quiet_day Heavy 3 ≡ 0 ∷ 0 ∷ 0 ∷ 0 ∷ 0 ∷ []
  pub light_turn : asked (missed_night fresh_year) Light 1 ≡ 3 ∷ 8700 ∷ 0 ∷ 0 ∷ 1 ∷ []
  pub second_light_turn : asked other_night Light 2 ≡ 4 ∷ 6700 ∷ 0 ∷ 0 ∷ 1 ∷ []
  pub largest_claim : asked partly_held_day Heavy 1 ≡ 0 ∷ 56400 ∷ 0 ∷ 0 ∷ 4 ∷ []
  pub two_claims : asked two_buyers_day Heavy 1 ≡ 0 ∷ 75000 ∷ 0 ∷ 2 ∷ 3 ∷ []
  -- 10 units are charged to the pool; party 1 sells 3 and buys 7
  pub paid : by_account (paid_to 2 statement) ≡ pos 10000 ∷ pos 70333 ∷ pos 30777 ∷ []
  pub taken : by_account (taken_from 2 statement) ≡ pos 0 ∷ pos 33777 ∷ pos 77333 ∷ []
  pub nets : by_account (net 2 statement) ≡ pos 10000 ∷ pos 36556 ∷ neg_ℤ (pos 46556) ∷ []
  pub dues : by_account (due 2 (statement ∷ statement ∷ [])) ≡ pos 20000 ∷ pos 73112 ∷ neg_ℤ (pos 93112) ∷ []
  pub charged : charges_of 2 (statement ∷ statement ∷ []) 1 ≡ pos 66000
  -- a close shuts the day, files a statement and adds to the year; a new year has no statement yet and starts over
  pub unclosed_year : year_figures unclosed ≡ 1 ∷ 0 ∷ 0 ∷ 0 ∷ []
  pub closed_year : year_figures closed ≡ 1 ∷ 1 ∷ 2 ∷ 40000 ∷ []
  pub started_year : year_figures started ≡ 0 ∷ 0 ∷ 0 ∷ 0 ∷ []
  pub closed_filed : filed_figures closed ≡ 1 ∷ 1 ∷ []
  pub started_filed : filed_figures started ≡ 1 ∷ 0 ∷ []
  pub closed_shut : closed.state.day.is_open ≡ false
  -- a day dropped is shut, its number and month are used up, and nothing else is left of it
  pub voided_shut : voided.state.day.is_open ≡ false
  pub voided_number : voided.state.day.number ≡ 1
  pub voided_year : year_figures voided ≡ 1 ∷ 0 ∷ 0 ∷ 0 ∷ []
  pub voided_filed : filed_figures voided ≡ 0 ∷ 0 ∷ []
  -- a call that is denied leaves all as it was
  pub denied_year : year_figures (tell closed void_day) ≡ year_figures closed
  pub denied_filed : filed_figures (tell closed void_day) ≡ filed_figures closed
