-- A book that was just set up. Assumes nothing.
use Rattle.std.proofs.Common.{◌≡◌, ℕ, false, List, [], ℤ, pos, get_or}
use Rattle.std.specs.List.{All}
use Rattle.tariff.specs.declared.blocks.DayKind.TheVariants.{Workday}
use Rattle.tally.specs.Hours.{blank}
use Rattle.tally.specs.States.{Proper, fresh, fresh_year}
use Rattle.book.specs.Led.{Led, Laid}
use Rattle.book.specs.Records.{hours_of, set_up_in, state_in, year_in}
use Rattle.book.specs.declared.records.DayRecord.{DayRecord}
use Rattle.book.specs.declared.records.Pool.{Pool}
use Rattle.book.specs.declared.records.YearRecord.{YearRecord}

-- what a book's records are before its first call
pub record Blank (day : DayRecord) (year : YearRecord) : Type 0 where
  pub number : day.number ≡ 0
  pub is_open : day.is_open ≡ false
  pub kind : day.kind ≡ Workday
  pub hours : hours_of day.hours ≡ λ hour. blank
  pub figures : year_in year ≡ fresh_year

pub begun_state : (pool : Pool) (day : DayRecord) (year : YearRecord) → Blank day year → state_in pool day year ≡ fresh (set_up_in pool)
begun_state pool day year b = λ i. record {
  set_up = set_up_in pool;
  day = record { number = b.number i; is_open = b.is_open i; kind = b.kind i; hours = b.hours i };
  year = b.figures i;
}

pub begun_led : (pool : Pool) (day : DayRecord) (year : YearRecord) (balances : List ℤ) → Blank day year → All Laid day.hours
    → Proper (set_up_in pool)
    → ((account : ℕ) → get_or balances account (pos 0) ≡ pos 0) → ∥ Led pool day year balances ∥₁
begun_led pool day year balances b laid proper none = ∣ record {
  events = [];
  proper = proper;
  lawful = tt;
  state = begun_state pool day year b;
  paid = λ account l. none account;
  laid = laid;
} ∣₁
