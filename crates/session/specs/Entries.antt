-- What an entry does to a session. Assumes nothing.
use Rattle.std.specs.Prelude.{◌≡◌, ℤ, Option, Some, None, IsSomeAnd}
use Rattle.tariff.specs.Answers.{Answer, granted, denied, refused, ◌then◌, after}
use Rattle.tariff.specs.Division.{Unmoved}
use Rattle.tariff.specs.declared.refusal.Refusal.TheVariants.{SecondSetUp, NotSetUp}
use Rattle.rules.specs.LargestRemainder.{largest}
use Rattle.sheets.specs.DaySheets.{sheet_of, tables_of}
use Rattle.sheets.specs.Sheets.{Sheet, day_answer, price_answer, hours_entry_answer, day_entered, hours_entered}
use Rattle.tally.specs.States.{SetUp, set_up_answer, set_up_of}
use Rattle.book.specs.Begun.{Begun}
use Rattle.book.specs.EntryStands.{EntryStands}
use Rattle.book.specs.MadeFrom.{PageChange}
use Rattle.book.specs.declared.book.Book.{Book}
use Rattle.book.specs.declared.entry.Entry.{Entry}
use Rattle.lines.specs.declared.entry.LineEntry.{LineEntry}
use Rattle.lines.specs.declared.entry.LineEntry.TheVariants as line_entry
use Rattle.session.specs.declared.session.Session.{Session}

-- the pages on which the session's book writes its statements
pub record SamePages (before left : Session) : Type 0 where
  pub heavy : left.heavy ≡ before.heavy
  pub light : left.light ≡ before.light

-- An entry of the sheet, whether or not a book is set up. The book stays.
pub record SheetFilled (answer : Answer) (change : Sheet → Sheet) (before : Session) (answered : Answer) (left : Session)
    : Type 0 where
  pub answers : answered ≡ answer
  pub sheet : sheet_of left.sheet ≡ after answered change (sheet_of before.sheet)
  pub book : left.book ≡ before.book
  pub pages : SamePages before left

-- a book is set up once
abbrev pub once : Option Book → Answer
once None = granted
once (Some book) = refused SecondSetUp

abbrev pub BookSetUp : Answer → SetUp → (before left : Option Book) → Type 0
BookSetUp granted set_up before left = IsSomeAnd left (Begun set_up)
BookSetUp (denied number first second) set_up before left = left ≡ before

-- A set-up. Its figures are tested before whether it is the second one. The sheet stays.
pub record SetUpTaken (parties full_rate step_rate : ℤ) (before : Session) (answered : Answer) (left : Session) : Type 0 where
  pub answers : answered ≡ set_up_answer parties full_rate step_rate then once before.book
  pub book : BookSetUp answered (set_up_of parties full_rate step_rate) before.book left.book
  pub sheet : left.sheet ≡ before.sheet
  pub pages : SamePages before left

abbrev pub heavy_page : (before left : Session) → PageChange
heavy_page before left = record { old = before.heavy; new = left.heavy }

abbrev pub light_page : (before left : Session) → PageChange
light_page before left = record { old = before.light; new = left.light }

-- a call of a book: prices are those of the session's sheet, and divisions go by largest remainder
abbrev pub BookCalled : Entry → Session → Answer → Session → (before left : Option Book) → Type 0
BookCalled entry before answered left None None = (answered ≡ refused NotSetUp) × SamePages before left
BookCalled entry before answered left None (Some new) = ⊥
BookCalled entry before answered left (Some old) None = ⊥
BookCalled entry before answered left (Some old) (Some new) =
    EntryStands (record {
      entry = entry;
      tables = tables_of before.sheet;
      most = 10;
      moves = Unmoved;
      first = largest;
      last = largest;
      answered = answered;
    }) old (heavy_page before left) (light_page before left) new

-- A call of the session's book. The sheet stays.
pub record CallTaken (entry : Entry) (before : Session) (answered : Answer) (left : Session) : Type 0 where
  pub book : BookCalled entry before answered left before.book left.book
  pub sheet : left.sheet ≡ before.sheet

-- what an entry of a line is answered, and the session that it leaves
abbrev pub EntryApplied : LineEntry → (before : Session) → Answer → (left : Session) → Type 0
EntryApplied (line_entry.SetUp parties full_rate step_rate) = SetUpTaken parties full_rate step_rate
EntryApplied (line_entry.DayPrices day heavy light) = SheetFilled (day_answer day heavy light) (day_entered day heavy light)
EntryApplied (line_entry.HourPrices first last real_time factor) =
    SheetFilled (hours_entry_answer first last (price_answer real_time) 4 factor)
    (hours_entered first last real_time factor)
EntryApplied (line_entry.Call entry) = CallTaken entry
