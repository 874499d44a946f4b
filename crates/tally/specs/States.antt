-- The state of a pool: its set-up, its day and its program year. Assumes nothing.
use Rattle.std.specs.Prelude.{◌≡◌, ℕ, ◌<◌, ◌≤◌, Bool, false, ◌&&◌, ℤ, pos, int_le, unsigned_abs}
use Rattle.tariff.specs.Answers.{Answer, granted, require, ◌then◌}
use Rattle.tariff.specs.Figures.{between}
use Rattle.tariff.specs.declared.blocks.DayKind.{DayKind}
use Rattle.tariff.specs.declared.blocks.DayKind.TheVariants.{Workday}
use Rattle.tariff.specs.declared.refusal.Refusal.TheVariants.{Parties, Rates}
use Rattle.tally.specs.Hours.{Hour, blank}
use Rattle.tally.specs.Numbered.{replaced}

-- how many parties there are, and the two rates of the ceiling in cents per MW
pub record SetUp : Type 0 where
  pub parties : ℕ
  pub full : ℕ
  pub step : ℕ

-- from 2 to 12 parties, and 0 ≤ step ≤ full ≤ 100,000,000
abbrev pub set_up_answer : (parties full step : ℤ) → Answer
set_up_answer parties full step =
    require (between 2 12 parties) Parties
    then require (int_le (pos 0) step && (int_le step full && between 0 100000000 full)) Rates

abbrev pub set_up_of : (parties full step : ℤ) → SetUp
set_up_of parties full step = record { parties = unsigned_abs parties; full = unsigned_abs full; step = unsigned_abs step }

-- a set-up that is accepted
abbrev pub Proper : SetUp → Type 0
Proper set_up = set_up_answer (pos set_up.parties) (pos set_up.full) (pos set_up.step) ≡ granted

-- the open day, or what the last one left
pub record Day : Type 0 where
  pub number : ℕ
  pub is_open : Bool
  pub kind : DayKind
  -- by number from 1
  pub hours : ℕ → Hour

abbrev pub months_of_year : ℕ
months_of_year = 12

-- what a program year has come to; all but its month by closed days alone
pub record Year : Type 0 where
  -- of the last day opened in it, also where that was dropped; 0 before the first
  pub month : ℕ
  -- failure days, by seller
  pub failure_days : ℕ → ℕ
  -- the largest hourly miss, by seller and month
  pub misses : ℕ → ℕ → ℕ
  -- delivery charges so far, by seller
  pub charges : ℕ → ℕ

pub record State : Type 0 where
  pub set_up : SetUp
  pub day : Day
  pub year : Year

-- an hour of the day by its number, and the one that an entry names
abbrev pub hour_at : State → ℕ → Hour
hour_at state hour = state.day.hours hour

abbrev pub hour_named : State → ℤ → Hour
hour_named state hour = hour_at state (unsigned_abs hour)

-- a party's number
abbrev pub IsParty : State → ℕ → Type 0
IsParty state party = (0 < party) × (party ≤ state.set_up.parties)

abbrev pub fresh_year : Year
fresh_year = record { month = 0; failure_days = λ seller. 0; misses = λ seller month. 0; charges = λ seller. 0 }

-- before the first call: no day was opened
abbrev pub fresh : SetUp → State
fresh set_up = record {
  set_up = set_up;
  day = record { number = 0; is_open = false; kind = Workday; hours = λ hour. blank };
  year = fresh_year;
}

-- one hour of the day changed
abbrev pub on_hour : ℕ → (Hour → Hour) → State → State
on_hour hour change state = record state {
  day = record (state.day) { hours = replaced state.day.hours hour (change (state.day.hours hour)) };
}

-- the day closed or dropped, its number and month used up
abbrev pub shut : Day → Day
shut day = record day { is_open = false }
