-- Calls that were made of a book, and what the tally makes of them. Assumes nothing.
use Rattle.std.specs.Prelude.{List, [], ◌∷◌, ◌++◌, map}
use Rattle.tariff.specs.Answers.{Answer, if_granted}
use Rattle.tally.specs.Events.{Event, close_day}
use Rattle.tally.specs.Statements.{Statement}
use Rattle.tally.specs.States.{SetUp}
use Rattle.tally.specs.Tally.{Tally, kept_of_year, tallied}
use Rattle.book.specs.declared.book.Book.{Book}

-- one call: the event that it is, with what the source and the rule meant that answered it; what it told; the two pages
-- as it left them; and the book that it left
pub record Made : Type 0 where
  pub event : Event
  pub answered : Answer
  pub pages : Statement
  pub left : Book

-- the tally of a list of calls, the newest first
abbrev pub tally_of : SetUp → List Made → Tally
tally_of set_up history = tallied set_up (map (λ call. call.event) history)

-- the statement of a call is both pages, where a close was accepted
abbrev pub stated_by : Event → Statement → List Statement
stated_by (close_day tables most meanings heavy_page light_page) pages = pages ∷ []
stated_by _ pages = []

abbrev pub statement_by : Made → List Statement
statement_by call = if_granted call.answered (stated_by call.event call.pages) []

-- the statements of all closed days, and those of the program year, the newest first
abbrev pub statements_of : List Made → List Statement
statements_of [] = []
statements_of (call ∷ history) = statement_by call ++ statements_of history

abbrev pub statements_of_year : List Made → List Statement
statements_of_year [] = []
statements_of_year (call ∷ history) =
    statement_by call
    ++ if_granted call.answered (kept_of_year call.event (statements_of_year history)) (statements_of_year history)
