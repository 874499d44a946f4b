-- What is guaranteed of the book of a session. Assumes nothing.
use Rattle.std.specs.Prelude.{◌≡◌, ◌≢◌, ℕ, List, [], ◌∷◌, ◌++◌, All, pos, Option, Some, None}
use Rattle.tally.specs.States.{SetUp, Proper}
use Rattle.book.specs.Guarantee.{Stands}
use Rattle.book.specs.Histories.{Made}
use Rattle.book.specs.Runs.{Run}
use Rattle.book.specs.declared.book.Book.{Book}
use Rattle.lines.specs.Texts.{line_of}
use Rattle.lines.specs.declared.entry.LineEntry.{LineEntry}
use Rattle.lines.specs.declared.entry.LineEntry.TheVariants as line_entry

-- the entry that sets a book up so, and its line
abbrev pub set_up_entry : SetUp → LineEntry
set_up_entry set_up = line_entry.SetUp (pos set_up.parties) (pos set_up.full) (pos set_up.step)

abbrev pub set_up_line : SetUp → List ℕ
set_up_line set_up = line_of (set_up_entry set_up)

-- a line that is not that of an accepted set-up
abbrev pub SetsNoneUp : (line : List ℕ) → Type 0
SetsNoneUp line = (set_up : SetUp) → Proper set_up → line ≢ set_up_line set_up

-- the first of the lines that is that of an accepted set-up is this one's
pub record SetUpBy (lines : List (List ℕ)) (set_up : SetUp) : Type 0 where
  pub before : List (List ℕ)
  pub behind : List (List ℕ)
  pub in_order : lines ≡ before ++ (set_up_line set_up ∷ behind)
  pub first : All SetsNoneUp before
  pub proper : Proper set_up

-- One of the lines set the book up, calls led to it from there, and the guarantee held after each of them and holds now.
pub record RunStands (lines : List (List ℕ)) (history : List Made) (book : Book) : Type 0 where
  pub set_up : SetUp
  pub by_line : SetUpBy lines set_up
  pub start : Book
  pub run : Run set_up start history book
  pub stands : Stands set_up start history book

-- no call was made before a book was set up
abbrev pub BookStands : (lines : List (List ℕ)) → List Made → Option Book → Type 0
BookStands lines history None = All SetsNoneUp lines × (history ≡ [])
BookStands lines history (Some book) = RunStands lines history book
