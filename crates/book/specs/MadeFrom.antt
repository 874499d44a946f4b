-- What an entry is as a call of a book. Assumes nothing.
use Rattle.std.specs.Prelude.{◌≡◌, ℕ, List, length}
use Rattle.tariff.specs.Answers.{Answer, granted}
use Rattle.tariff.specs.Division.{Division, Moves}
use Rattle.tariff.specs.Tables.{Tables}
use Rattle.tally.specs.Events.{Event, close_day}
use Rattle.tally.specs.States.{State}
use Rattle.book.specs.Entries.{event_of}
use Rattle.book.specs.Histories.{Made}
use Rattle.book.specs.Pages.{statement_on}
use Rattle.book.specs.RuleMoves.{MovedBy}
use Rattle.book.specs.declared.book.Book.{Book}
use Rattle.book.specs.declared.entry.Entry.{Entry}
use Rattle.book.specs.declared.payment.Payment.{Payment}

-- a page before and after a call
pub record PageChange : Type 0 where
  pub old : List Payment
  pub new : List Payment

-- only an accepted close writes on pages, and it keeps how many entries they have
abbrev pub Unwritten : Event → Answer → PageChange → Type 0
Unwritten (close_day tables most meanings heavy_page light_page) granted page = length page.new ≡ length page.old
Unwritten _ answered page = page.new ≡ page.old

-- An entry and what answered it: a source that means `tables`, and a rule that takes `most` claims above 0, moves its
-- meaning by `moves`, and means `first` before the call and `last` after it. And what was told.
pub record AnsweredEntry : Type 1 where
  pub entry : Entry
  pub tables : Tables
  pub most : ℕ
  pub moves : Moves
  pub first : Division
  pub last : Division
  pub answered : Answer

module _ (said : AnsweredEntry) (heavy light : PageChange) where
  -- the event that it is, by what the rule means at each turn
  abbrev pub event_by : (ℕ → Division) → Event
  event_by meanings = event_of said.entry said.tables said.most meanings (length heavy.old) (length light.old)

  -- the call of an entry in a state: how the rule moved, and what became of the pages
  pub record MadeFrom (state : State) : Type 0 where
    -- what the rule means at each turn of the call
    pub meanings : ℕ → Division
    pub starts : meanings 0 ≡ said.first
    pub moved : MovedBy said.moves state (event_by meanings) said.answered said.first said.last
    pub heavy_kept : Unwritten (event_by meanings) said.answered heavy
    pub light_kept : Unwritten (event_by meanings) said.answered light

-- the call that was made so
abbrev pub call_from : {said : AnsweredEntry} {heavy light : PageChange} {state : State}
    → MadeFrom said heavy light state → Book → Made
call_from {said} {heavy} {light} from left = record {
  event = event_by said heavy light from.meanings;
  answered = said.answered;
  pages = statement_on heavy.new light.new;
  left = left;
}
