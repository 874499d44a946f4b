-- The pool and the days of the worked figures: three parties, most often two that hold for the third. Assumes nothing.
use Rattle.std.specs.Prelude.{ℕ, true, if◌then◌else◌, ◌&&◌, List, [], ◌∷◌, ℤ, pos, neg_ℤ, Some, None, Option, ◌==◌, nat_le}
use Rattle.tariff.specs.Tables.{Tables}
use Rattle.tariff.specs.declared.blocks.Block.{Block}
use Rattle.tariff.specs.declared.blocks.Block.TheVariants.{Heavy, Light}
use Rattle.tariff.specs.declared.blocks.DayKind.TheVariants.{Workday}
use Rattle.tariff.specs.declared.charges.Cover.{Cover}
use Rattle.tariff.specs.declared.charges.Cover.TheVariants.{Covered}
use Rattle.tally.specs.Hours.{Hour, blank}
use Rattle.tally.specs.Numbered.{numbered, replaced}
use Rattle.tally.specs.States.{SetUp, State, Year, fresh, fresh_year, on_hour}
use Rattle.tally.specs.Tally.{opened}

-- a full rate of 20,000 cents per MW and a step rate of 15,000
abbrev pub three : SetUp
three = record { parties = 3; full = 20000; step = 15000 }

-- figures that a source has for day 1 alone
abbrev pub first_day_only : {A : Type 0} → A → ℕ → Option A
first_day_only figure day = if day == 1 then Some figure else None

-- one figure for the hours 7 to 22, and one for the night
abbrev pub by_hour : {A : Type 0} → A → A → ℕ → A
by_hour day night hour = if nat_le 7 hour && nat_le hour 22 then day else night

abbrev pub by_block : ℤ → ℤ → Block → ℤ
by_block heavy light Heavy = heavy
by_block heavy light Light = light

-- day-ahead 5,000 and 3,000; real-time 4,000 and a factor of 12,000, at night 2,000 and 10,000
abbrev pub day_tables : Tables
day_tables = record {
  day_ahead = λ day block. first_day_only (by_block (pos 5000) (pos 3000) block) day;
  real_time = λ day hour. first_day_only (by_hour (pos 4000) (pos 2000) hour) day;
  factor = λ day hour. first_day_only (by_hour 12000 10000 hour) day;
}

-- higher prices in real time, and prices below 0, on every day
abbrev pub dear_tables : Tables
dear_tables = record day_tables { real_time = λ day hour. Some (pos 6000) }

abbrev pub negative_tables : Tables
negative_tables = record day_tables { day_ahead = λ day block. Some (neg_ℤ (pos 100)); real_time = λ day hour. Some (neg_ℤ (pos 50)) }

-- the first day of a year that has come to something before; and with one of its hours
abbrev pub first_day : Year → State
first_day year = opened 1 Workday 1 (record (fresh three) { year = year })

abbrev pub day_of : Year → ℕ → Hour → State
day_of year number hour = on_hour number (λ before. hour) (first_day year)

-- an hour with results 30, 20 and −25 in which party 3 requests some MW: what parties 1 and 2 hold, are to deliver and miss
-- of that, and whether others cover what party 1 misses
abbrev pub met_hour : ℕ → (held deployed missed : List ℕ) → Cover → Hour
met_hour request held deployed missed cover = record {
  results = replaced (replaced (replaced (λ party. pos 0) 1 (pos 30)) 2 (pos 20)) 3 (neg_ℤ (pos 25));
  offers = λ party. 0;
  requests = replaced (λ party. 0) 3 request;
  allotted = true;
  holdings = numbered held;
  deployed = λ seller. replaced (λ buyer. 0) 3 (numbered deployed seller);
  missed = λ seller. replaced (λ buyer. 0) 3 (numbered missed seller);
  cover = λ seller. replaced (λ buyer. Covered) 3 (if seller == 1 then cover else Covered);
}

-- in hour 8 parties 1 and 2 hold 4 and 3 MW and are to deliver 3 and 2 MWh, of which party 1 misses some
abbrev pub hour8 : ℕ → Cover → Hour
hour8 missed cover = met_hour 7 (4 ∷ 3 ∷ []) (3 ∷ 2 ∷ []) (missed ∷ 0 ∷ []) cover

abbrev pub quiet_day : State
quiet_day = day_of fresh_year 8 (hour8 0 Covered)

-- the same hour on day 2
abbrev pub second_day : State
second_day = on_hour 8 (λ before. hour8 0 Covered) (opened 2 Workday 1 (fresh three))

abbrev pub missed_day : Cover → State
missed_day cover = day_of fresh_year 8 (hour8 2 cover)

-- in hour 9 party 1 holds 2 MW besides, and is to deliver none
abbrev pub partly_held_day : State
partly_held_day = on_hour 9 (λ before. met_hour 2 (2 ∷ 0 ∷ []) [] [] Covered) quiet_day

-- an hour in which party 1 holds 1 MW, is to deliver it and misses it; and a day with that in hour 24
abbrev pub one_missed : Hour
one_missed = met_hour 1 (1 ∷ []) (1 ∷ []) (1 ∷ []) Covered

abbrev pub missed_night : Year → State
missed_night year = day_of year 24 one_missed

-- an hour in which party 1 holds 5 MW, 2 for party 2 and 3 for party 3, is to deliver 1 and 2 of them and misses one of each
abbrev pub two_buyers : Hour
two_buyers = record blank {
  requests = numbered (0 ∷ 2 ∷ 3 ∷ []);
  allotted = true;
  holdings = numbered (5 ∷ []);
  deployed = λ seller. if seller == 1 then numbered (0 ∷ 1 ∷ 2 ∷ []) else λ buyer. 0;
  missed = λ seller. if seller == 1 then numbered (0 ∷ 1 ∷ 1 ∷ []) else λ buyer. 0;
}

abbrev pub two_buyers_day : State
two_buyers_day = day_of fresh_year 8 two_buyers
