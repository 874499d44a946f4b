-- Each call as an entry. Assumes nothing.
use Rattle.std.proofs.Common.{◌≡◌, ℕ, List, ◌∷◌, length, refl, sym, subst₂}
use Rattle.tariff.specs.Answers.{Answer}
use Rattle.tariff.specs.Division.{Division, Moves}
use Rattle.tariff.specs.Tables.{Tables}
use Rattle.tally.specs.Events.{Event}
use Rattle.tally.specs.States.{SetUp}
use Rattle.book.specs.Books.{state_of}
use Rattle.book.specs.Entries.{event_of}
use Rattle.book.specs.EntryStands.{EntryMade, EntryStands}
use Rattle.book.specs.Stepped.{Stepped}
use Rattle.book.specs.Histories.{Made, tally_of}
use Rattle.book.specs.MadeFrom.{AnsweredEntry, PageChange, Unwritten, MadeFrom, call_from}
use Rattle.book.specs.Pages.{statement_on}
use Rattle.book.specs.RuleMoves.{MovedBy}
use Rattle.book.specs.Runs.{FilledBy, Run, called}
use Rattle.book.specs.declared.book.Book.{Book}
use Rattle.book.specs.declared.entry.Entry.{Entry}
use Rattle.book.specs.declared.payment.Payment.{Payment}
use Rattle.book.proofs.Standing.{run_stands}
use Rattle.book.proofs.Tracing.{run_traced}

module _ {said : AnsweredEntry} {before : Book} {heavy light : PageChange} {left : Book}
    (did : EntryMade said before heavy light left) where
  -- a list of calls that led to a book goes on with the call
  pub run_on : {set_up : SetUp} {start : Book} {history : List Made} → Run set_up start history before
      → Run set_up start (call_from did.from left ∷ history) left
  run_on run = called _ _ (call_from did.from left) run did.made

  -- the guarantee of every run is that of the run which the call goes on with
  pub entry_stands : EntryStands said before heavy light left
  entry_stands = record { did = did; whole = λ set_up start history run. run_stands set_up start _ _ (run_on run) }

  -- after a list of calls, the book's state is the tally's
  abbrev pub made_from : {set_up : SetUp} {start : Book} {history : List Made} → Run set_up start history before
      → MadeFrom said heavy light (tally_of set_up history).state
  made_from run = record {
    meanings = did.from.meanings;
    starts = did.from.starts;
    moved = rw (sym (run_traced run).state) did.from.moved;
    heavy_kept = did.from.heavy_kept;
    light_kept = did.from.light_kept;
  }

-- pages that are made of slices have what the slices have, before a call and after it
pub on_slices : {said : AnsweredEntry} {before left : Book} {heavy light heavy_left light_left heavy' light' heavy_left' light_left' : List Payment}
    → EntryStands said before (record { old = heavy; new = heavy_left }) (record { old = light; new = light_left }) left
    → heavy ≡ heavy' → light ≡ light' → heavy_left ≡ heavy_left' → light_left ≡ light_left'
    → EntryStands said before (record { old = heavy'; new = heavy_left' }) (record { old = light'; new = light_left' }) left
on_slices {said} {before} {left} {heavy} {light} {heavy_left} {light_left} {heavy'} {light'} stands h l h' l' =
    subst₂ (λ x y. EntryStands said before (record { old = heavy'; new = x }) (record { old = light'; new = y }) left) h' l'
    (subst₂ (λ x y. EntryStands said before (record { old = x; new = heavy_left }) (record { old = y; new = light_left }) left) h l stands)

-- a call at which the rule has one meaning, that of when it was called, and no page is written
module _ (tables : Tables) (most : ℕ) (moves : Moves) (entry : Entry) (before : Book) (first : Division) (heavy light : List Payment)
    (answered : Answer) (left : Book) (last : Division) where
  abbrev event : Event
  event = event_of entry tables most (λ turn. first) (length heavy) (length light)

  abbrev kept : List Payment → PageChange
  kept page = record { old = page; new = page }

  pub enters_once : Stepped before event answered left → FilledBy (state_of before) event answered (statement_on heavy light)
      → MovedBy moves (state_of before) event answered first last
      → Unwritten event answered (kept heavy) → Unwritten event answered (kept light)
      → EntryStands
      (record { entry = entry; tables = tables; most = most; moves = moves; first = first; last = last; answered = answered })
      before (kept heavy) (kept light) left
  enters_once stepped filled moved heavy_kept light_kept = entry_stands (record {
    from = record {
      meanings = λ turn. first;
      starts = refl;
      moved = moved;
      heavy_kept = heavy_kept;
      light_kept = light_kept;
    };
    made = record { stepped = stepped; filled = filled };
  })
