-- What a book's records say, in the words of the tally. Assumes nothing.
use Rattle.std.specs.Prelude.{ℕ, zero, suc, Bool, true, false, pos, List, [], map, slice_index_or}
use Rattle.tariff.specs.declared.charges.Cover.TheVariants.{Covered}
use Rattle.tally.specs.Hours.{Hour, blank}
use Rattle.tally.specs.States.{State, SetUp, Year}
use Rattle.book.specs.declared.records.DayRecord.{DayRecord}
use Rattle.book.specs.declared.records.HourRecord.{HourRecord}
use Rattle.book.specs.declared.records.Pool.{Pool}
use Rattle.book.specs.declared.records.HourRecord.TheVariants.{Unallotted, Allotted}
use Rattle.book.specs.declared.records.Entered.{Entered}
use Rattle.book.specs.declared.records.Held.{Held}
use Rattle.book.specs.declared.records.YearRecord.{YearRecord}

-- what stands for a number in a list: number 1 has the first place, and a number without a place has `none`
abbrev pub at : {A : Type 0} → A → List A → ℕ → A
at none list zero = none
at none list (suc place) = slice_index_or list place none

-- and in a row of a table
abbrev pub in_row : {A : Type 0} → A → List (List A) → (row column : ℕ) → A
in_row none rows row column = at none (at [] rows row) column

-- in a table with a row for each buyer
abbrev pub by_seller : {A : Type 0} → A → List (List A) → (seller buyer : ℕ) → A
by_seller none rows seller buyer = in_row none rows buyer seller

-- whether an hour is allotted, what was entered for it, and what it holds: nothing before
abbrev pub is_allotted : HourRecord → Bool
is_allotted (Unallotted entered) = false
is_allotted (Allotted entered held) = true

abbrev pub entered_of : HourRecord → Entered
entered_of (Unallotted entered) = entered
entered_of (Allotted entered held) = entered

abbrev pub held_of : HourRecord → Held
held_of (Unallotted entered) = record { holdings = []; pairs = []; deployed = []; missed = []; cover = [] }
held_of (Allotted entered held) = held

-- an hour: figures by number of party, and pairs by seller and buyer
abbrev pub hour_of : HourRecord → Hour
hour_of record_ = record {
  results = at (pos 0) (entered_of record_).results;
  offers = at 0 (entered_of record_).offers;
  requests = at 0 (entered_of record_).requests;
  allotted = is_allotted record_;
  holdings = at 0 (held_of record_).holdings;
  deployed = by_seller 0 (held_of record_).deployed;
  missed = by_seller 0 (held_of record_).missed;
  cover = by_seller Covered (held_of record_).cover;
}

-- an hour of which so much was entered, and that is not allotted
abbrev pub unallotted : Entered → Hour
unallotted entered = hour_of (Unallotted entered)

-- the hours of a day by number; a number that is no hour's has nothing
abbrev pub hours_of : List HourRecord → ℕ → Hour
hours_of records = at blank (map hour_of records)

-- the set-up, the year, and all of it together
abbrev pub set_up_in : Pool → SetUp
set_up_in pool = record { parties = pool.parties; full = pool.full_rate; step = pool.step_rate }

abbrev pub year_in : YearRecord → Year
year_in year = record {
  month = year.month;
  failure_days = at 0 year.failure_days;
  misses = in_row 0 year.misses;
  charges = at 0 year.charges;
}

abbrev pub state_in : Pool → DayRecord → YearRecord → State
state_in pool day year = record {
  set_up = set_up_in pool;
  day = record { number = day.number; is_open = day.is_open; kind = day.kind; hours = hours_of day.hours };
  year = year_in year;
}
