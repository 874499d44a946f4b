-- Lines that a session answered, one after another. Assumes nothing.
use Rattle.std.specs.Prelude.{ℕ, List, [], ◌∷◌, ◌++◌, Result, Ok, Err, Option, Some}
use Rattle.tariff.specs.Answers.{Answer, told}
use Rattle.tariff.specs.declared.refusal.Refusal.{Refusal}
use Rattle.book.specs.Histories.{Made}
use Rattle.book.specs.MadeFrom.{call_from}
use Rattle.book.specs.declared.book.Book.{Book}
use Rattle.book.specs.declared.entry.Entry.{Entry}
use Rattle.lines.specs.declared.entry.LineEntry.{LineEntry}
use Rattle.lines.specs.declared.entry.LineEntry.TheVariants as line_entry
use Rattle.session.specs.Replies.{reply_text}
use Rattle.session.specs.Entries.{BookCalled, EntryApplied}
use Rattle.session.specs.Lines.{ReadingApplied, LineTaken}
use Rattle.session.specs.declared.session.Session.{Session}

-- the calls of a book that an entry was: one where it is a call and a book is set up
abbrev pub calls_of_book : (entry : Entry) (before : Session) (answered : Answer) (left : Session) (old new : Option Book)
    → BookCalled entry before answered left old new → List Made
calls_of_book entry before answered left (Some old) (Some new) call = call_from call.did.from new ∷ []
calls_of_book entry before answered left _ _ calls = []

abbrev pub calls_of_entry : (entry : LineEntry) (before : Session) (answered : Answer) (left : Session)
    → EntryApplied entry before answered left → List Made
calls_of_entry (line_entry.Call entry) before answered left step =
    calls_of_book entry before answered left before.book left.book step.book
calls_of_entry _ before answered left step = []

abbrev pub calls_of_reading : (reading result : Result LineEntry Refusal) (before left : Session)
    → ReadingApplied reading result before left → List Made
calls_of_reading (Ok entry) result before left applied = calls_of_entry entry before (told result) left applied.0
calls_of_reading (Err refusal) result before left applied = []

-- The lines that led from one session to another, in order; what was written of them, one reply to each; and the calls of a
-- book that they were, the newest first.
pub data Course (start : Session) : (lines : List (List ℕ)) (replies : List ℕ) (history : List Made) → Session → Type 0 where
  begins : Course start [] [] [] start
  goes_on : (lines : List (List ℕ)) (replies : List ℕ) (history : List Made) (before : Session)
      → Course start lines replies history before
      → (line : List ℕ) (result : Result LineEntry Refusal) (left : Session) → (taken : LineTaken line result before left)
      → Course start (lines ++ (line ∷ [])) (replies ++ reply_text left result)
      (calls_of_reading taken.reading result before left taken.applied ++ history) left
