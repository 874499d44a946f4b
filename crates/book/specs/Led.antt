-- To what records calls lead. Assumes nothing.
use Rattle.std.specs.Prelude.{◌≡◌, ℕ, ◌≤◌, true, List, ℤ, pos, slice_index_or}
use Rattle.std.specs.List.{All}
use Rattle.tally.specs.Events.{Event, AllLawful}
use Rattle.tally.specs.Pairs.{pair}
use Rattle.tally.specs.States.{Proper}
use Rattle.tally.specs.Statements.{due}
use Rattle.tally.specs.Tally.{tallied}
use Rattle.book.specs.Records.{by_seller, held_of, hour_of, set_up_in, state_in}
use Rattle.book.specs.declared.records.DayRecord.{DayRecord}
use Rattle.book.specs.declared.records.HourRecord.{HourRecord}
use Rattle.book.specs.declared.records.Pool.{Pool}
use Rattle.book.specs.declared.records.YearRecord.{YearRecord}

-- the pairs of an allotted hour's record are those of its holdings and requests
abbrev pub Laid : HourRecord → Type 0
Laid hour = (hour_of hour).allotted ≡ true → (seller buyer : ℕ) → by_seller 0 (held_of hour).pairs seller buyer
    ≡ pair (hour_of hour) seller buyer

-- Some list of lawful calls led to these records from their set-up: the state and each balance are what the tally makes
-- of that list.
pub record Led (pool : Pool) (day : DayRecord) (year : YearRecord) (balances : List ℤ) : Type 0 where
  pub events : List Event
  pub proper : Proper (set_up_in pool)
  pub lawful : AllLawful events
  pub state : state_in pool day year ≡ (tallied (set_up_in pool) events).state
  pub paid : (account : ℕ) → account ≤ pool.parties
      → slice_index_or balances account (pos 0) ≡ due pool.parties (tallied (set_up_in pool) events).statements account
  pub laid : All Laid day.hours
