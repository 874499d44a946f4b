-- Which books calls lead to, by the calls' own contracts. Assumes nothing.
use Rattle.std.specs.Prelude.{List, [], ◌∷◌}
use Rattle.tariff.specs.Answers.{Answer, granted}
use Rattle.tally.specs.DayPrices.{needed_prices}
use Rattle.tally.specs.Events.{Event, close_day}
use Rattle.tally.specs.Statements.{Statement, statement_of}
use Rattle.tally.specs.States.{State, SetUp}
use Rattle.book.specs.Begun.{Begun}
use Rattle.book.specs.Books.{state_of}
use Rattle.book.specs.SameStatement.{SameStatement}
use Rattle.book.specs.Stepped.{Stepped}
use Rattle.book.specs.Histories.{Made}
use Rattle.book.specs.declared.book.Book.{Book}

-- an accepted close fills both pages with the day's statement
abbrev pub FilledBy : State → Event → Answer → Statement → Type 0
FilledBy state (close_day tables most meanings heavy_page light_page) granted pages =
    SameStatement pages (statement_of state (needed_prices state tables) meanings)
FilledBy state _ answered pages = Unit {0}

-- a call of a book did what its contract says
pub record CallMade (before : Book) (call : Made) : Type 0 where
  pub stepped : Stepped before call.event call.answered call.left
  pub filled : FilledBy (state_of before) call.event call.answered call.pages

-- A set-up, and then calls, the newest first: each of them any of the ten, with any lawful source and rule, accepted or
-- denied.
pub data Run (set_up : SetUp) (start : Book) : List Made → Book → Type 0 where
  begun : Begun set_up start → Run set_up start [] start
  called : (history : List Made) (book : Book) (call : Made) → Run set_up start history book → CallMade book call
      → Run set_up start (call ∷ history) call.left
