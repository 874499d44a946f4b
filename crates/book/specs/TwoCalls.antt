-- Two calls of a book, one after the other. Assumes nothing.
use Rattle.std.specs.Prelude.{List, ◌∷◌}
use Rattle.tally.specs.States.{SetUp}
use Rattle.book.specs.EntryStands.{EntryStands}
use Rattle.book.specs.Guarantee.{Stands}
use Rattle.book.specs.Histories.{Made}
use Rattle.book.specs.MadeFrom.{AnsweredEntry, PageChange, call_from}
use Rattle.book.specs.Runs.{Run}
use Rattle.book.specs.declared.book.Book.{Book}
use Rattle.book.specs.declared.payment.Payment.{Payment}

-- Two entries, each with what answered it, were made calls: each did what its own contract says, the second on the book
-- and the pages that the first left.
pub record OneAfterAnother (one other : AnsweredEntry) (before : Book) (heavy light : PageChange) (left : Book) : Type 0 where
  -- the book between the two, and what its pages have then
  pub between : Book
  pub heavy_between : List Payment
  pub light_between : List Payment
  pub first : EntryStands one before
      (record { old = heavy.old; new = heavy_between }) (record { old = light.old; new = light_between }) between
  pub second : EntryStands other between
      (record { old = heavy_between; new = heavy.new }) (record { old = light_between; new = light.new }) left
  -- whatever list of calls led to the book goes on with both
  pub whole : (set_up : SetUp) (start : Book) (history : List Made) → Run set_up start history before
      → Stands set_up start (call_from second.did.from left ∷ call_from first.did.from between ∷ history) left
