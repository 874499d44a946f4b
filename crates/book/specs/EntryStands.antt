-- What one call of a book does, whatever it is, and what is guaranteed after it. Assumes nothing.
use Rattle.std.specs.Prelude.{List, ◌∷◌}
use Rattle.tally.specs.States.{SetUp}
use Rattle.book.specs.Books.{state_of}
use Rattle.book.specs.Guarantee.{Stands}
use Rattle.book.specs.Histories.{Made}
use Rattle.book.specs.MadeFrom.{AnsweredEntry, PageChange, MadeFrom, call_from}
use Rattle.book.specs.Runs.{Run, CallMade}
use Rattle.book.specs.declared.book.Book.{Book}

module _ (said : AnsweredEntry) (before : Book) (heavy light : PageChange) (left : Book) where
  -- the call that an entry is was made of a book, as its contract says
  pub record EntryMade : Type 0 where
    pub from : MadeFrom said heavy light (state_of before)
    pub made : CallMade before (call_from from left)

  -- And what is guaranteed after it. Whatever list of calls led from a set-up to this book, each with any lawful source
  -- and rule, denied ones included: the guarantee held after each of them, and holds after this one.
  pub record EntryStands : Type 0 where
    pub did : EntryMade
    pub whole : (set_up : SetUp) (start : Book) (history : List Made) → Run set_up start history before
        → Stands set_up start (call_from did.from left ∷ history) left
