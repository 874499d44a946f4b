-- The book that lines lead to. Assumes nothing.
use Rattle.std.proofs.Common.{◌≡◌, ◌≢◌, ℕ, List, [], ◌∷◌, ◌++◌, All, true, ℤ, pos, negsuc, nat_abs, Option, Some, None, Result, Ok, Err}
use Rattle.std.proofs.Common.{refl, sym, ◌∙◌, ap, subst, arith}
use Rattle.std.proofs.lemmas.Bool.{and_parts}
use Rattle.std.proofs.lemmas.Bool.Decides.{nat_tests}
use Rattle.std.proofs.lemmas.Int.{ints}
use Rattle.std.proofs.lemmas.List.{append_assoc}
use Rattle.std.proofs.lemmas.List.Elements.{All-nil, All-push}
use lib.Signed.{le_z}
use Rattle.tariff.specs.Answers.{Answer, granted, denied, refused, told, ◌then◌, require}
use Rattle.tariff.specs.Figures.{between}
use Rattle.tariff.specs.declared.refusal.Refusal.{Refusal}
use Rattle.tariff.specs.declared.refusal.Refusal.TheVariants.{Parties, Rates, SecondSetUp}
use Rattle.tally.specs.States.{SetUp, Proper, set_up_answer, set_up_of}
use Rattle.tally.proofs.Granting.{then_first, then_next, passed}
use Rattle.tally.proofs.SetUps.{few_parties, step_within_full, full_size}
use Rattle.book.specs.Histories.{Made}
use Rattle.book.specs.Runs.{Run, begun, called}
use Rattle.book.specs.declared.book.Book.{Book}
use Rattle.book.specs.declared.entry.Entry.{Entry}
use Rattle.book.proofs.Standing.{run_stands}
use Rattle.lines.specs.Fits.{Writable}
use Rattle.lines.specs.Reading.{Reads}
use Rattle.lines.specs.Texts.{line_of}
use Rattle.lines.specs.declared.entry.LineEntry.{LineEntry}
use Rattle.lines.specs.declared.entry.LineEntry.TheVariants as line_entry
use Rattle.lines.proofs.OneReading.{read_as}
use Rattle.session.specs.Courses.{Course, begins, goes_on, calls_of_book, calls_of_entry, calls_of_reading}
use Rattle.session.specs.Stands.{BookStands, SetsNoneUp, SetUpBy, set_up_entry, set_up_line}
use Rattle.session.specs.Entries.{BookSetUp, BookCalled, EntryApplied, once}
use Rattle.session.specs.Lines.{ReadingApplied}
use Rattle.session.specs.declared.session.Session.{Session}

-- a line of an accepted set-up is read as that set-up
writable : (set_up : SetUp) → Proper set_up → Writable (set_up_entry set_up)
writable set_up proper =
    let parties = few_parties set_up proper in
    let full = full_size set_up proper in
    let step = step_within_full set_up proper in
    (omega arith, (omega arith, (omega arith, tt)))

read_set_up : (line : List ℕ) (reading : Result LineEntry Refusal) → Reads line reading → (set_up : SetUp) → Proper set_up
    → line ≡ set_up_line set_up → reading ≡ Ok (set_up_entry set_up)
read_set_up line reading reads set_up proper same =
    read_as line reading reads (set_up_entry set_up) (writable set_up proper) same

-- and one that is read as anything else sets no book up
sets_none_up : (line : List ℕ) (reading : Result LineEntry Refusal) → Reads line reading
    → ((set_up : SetUp) → reading ≢ Ok (set_up_entry set_up)) → SetsNoneUp line
sets_none_up line reading reads other set_up proper same = other set_up (read_set_up line reading reads set_up proper same)

-- figures that are accepted are not below 0
sized : (low : ℕ) (figure : ℤ) → le_z (pos low) figure ≡ true → figure ≡ pos (nat_abs figure)
sized low (pos n) e = refl
sized low (negsuc n) e = absurd (grind (arith, ints, nat_tests))

accepted_entry : (parties full step : ℤ) → set_up_answer parties full step ≡ granted
    → line_entry.SetUp parties full step ≡ set_up_entry (set_up_of parties full step)
accepted_entry parties full step ok =
    let is_parties = and_parts (le_z (pos 2) parties) _ (passed _ Parties (then_first (require (between 2 12 parties) Parties) _ ok)) in
    let is_step = and_parts (le_z (pos 0) step) _ (passed _ Rates (then_next (require (between 2 12 parties) Parties) _ ok)) in
    let is_full = and_parts (le_z (pos 0) full) _ (and_parts (le_z step full) _ is_step.1).1 in
    λ i. line_entry.SetUp (sized 2 parties is_parties.0 i) (sized 0 full is_full.0 i) (sized 0 step is_step.0 i)

-- a set-up by one of some lines is one by one of more
set_up_still : (lines : List (List ℕ)) (line : List ℕ) (set_up : SetUp) → SetUpBy lines set_up → SetUpBy (lines ++ (line ∷ [])) set_up
set_up_still lines line set_up by = record {
  before = by.before;
  behind = by.behind ++ (line ∷ []);
  in_order = ap (λ ls. ls ++ (line ∷ [])) by.in_order ∙ append_assoc by.before (set_up_line set_up ∷ by.behind) (line ∷ []);
  first = by.first;
  proper = by.proper;
}

-- a second set-up is not granted
second_denied : (answer : Answer) → granted ≡ answer then refused SecondSetUp → ⊥
second_denied granted same = absurd cc
second_denied (denied number first second) same = absurd cc

-- what the figures of a set-up are answered
abbrev answer_to : Result LineEntry Refusal → Answer
answer_to (Ok (line_entry.SetUp parties full step)) = set_up_answer parties full step
answer_to _ = granted

-- what is known of a book after some lines, so far
record RunTo (lines : List (List ℕ)) (history : List Made) (book : Book) : Type 0 where
  set_up : SetUp
  by_line : SetUpBy lines set_up
  start : Book
  run : Run set_up start history book

abbrev Runs : (lines : List (List ℕ)) → List Made → Option Book → Type 0
Runs lines history None = All SetsNoneUp lines × (history ≡ [])
Runs lines history (Some book) = RunTo lines history book

module _ (lines : List (List ℕ)) (line : List ℕ) where
  abbrev more : List (List ℕ)
  more = lines ++ (line ∷ [])

  -- one more line, by which no book is set up
  runs_still : (history : List Made) (book : Option Book) → (book ≡ None → SetsNoneUp line) → Runs lines history book
      → Runs more history book
  runs_still history None none run = (All-push SetsNoneUp lines line run.0 (none refl), run.1)
  runs_still history (Some book) none run =
      record { set_up = run.set_up; by_line = set_up_still lines line run.set_up run.by_line; start = run.start; run = run.run }

  runs_kept : (history : List Made) (old new : Option Book) → new ≡ old → (old ≡ None → SetsNoneUp line) → Runs lines history old
      → Runs more history new
  runs_kept history old new kept none run = subst (Runs more history) (sym kept) (runs_still history old none run)

  module _ (parties full step : ℤ) (reads : Reads line (Ok (line_entry.SetUp parties full step))) where
    -- figures that are refused are no accepted set-up's
    refused_sets_none_up : (number first second : ℕ)
        → denied number first second ≡ set_up_answer parties full step then once None → SetsNoneUp line
    refused_sets_none_up number first second same set_up proper says =
        let entry = read_set_up line (Ok (line_entry.SetUp parties full step)) reads set_up proper says in
        let ok : set_up_answer parties full step ≡ granted = ap answer_to entry ∙ proper in
        let wrong : denied number first second ≡ granted = same ∙ ap (λ a. a then once None) ok in
        absurd cc

    run_set_up : (answered : Answer) (history : List Made) (old new : Option Book)
        → answered ≡ set_up_answer parties full step then once old → BookSetUp answered (set_up_of parties full step) old new
        → Runs lines history old → Runs more history new
    run_set_up granted history None (Some book) same fresh run =
        let ok = then_first (set_up_answer parties full step) _ (sym same) in
        record {
          set_up = set_up_of parties full step;
          by_line = record {
            before = lines;
            behind = [];
            in_order = ap (λ l. lines ++ (l ∷ [])) (reads.1 ∙ ap line_of (accepted_entry parties full step ok));
            first = run.0;
            proper = fresh.proper;
          };
          start = book;
          run = subst (λ calls. Run (set_up_of parties full step) book calls book) (sym run.1) (begun fresh);
        }
    run_set_up granted history None None same fresh run = absurd fresh
    run_set_up granted history (Some book) new same fresh run = absurd (second_denied (set_up_answer parties full step) same)
    run_set_up (denied number first second) history None new same kept run =
        runs_kept history None new kept (λ unset. refused_sets_none_up number first second same) run
    run_set_up (denied number first second) history (Some book) new same kept run =
        runs_kept history (Some book) new kept (λ unset. absurd cc) run

  run_call : (entry : Entry) (before : Session) (answered : Answer) (left : Session) (old new : Option Book)
      (call : BookCalled entry before answered left old new) → SetsNoneUp line → (history : List Made) → Runs lines history old
      → Runs more (calls_of_book entry before answered left old new call ++ history) new
  run_call entry before answered left None None call none history run = runs_still history None (λ unset. none) run
  run_call entry before answered left None (Some new) call none history run = absurd call
  run_call entry before answered left (Some old) None call none history run = absurd call
  run_call entry before answered left (Some old) (Some new) call none history run =
      record {
        set_up = run.set_up;
        by_line = set_up_still lines line run.set_up run.by_line;
        start = run.start;
        run = called history old _ run.run call.did.made;
      }

  run_entry : (entry : LineEntry) (before : Session) (answered : Answer) (left : Session) → Reads line (Ok entry)
      → (step : EntryApplied entry before answered left) (history : List Made) → Runs lines history before.book
      → Runs more (calls_of_entry entry before answered left step ++ history) left.book
  run_entry (line_entry.SetUp parties full step) before answered left reads applied history run =
      run_set_up parties full step reads answered history before.book left.book applied.answers applied.book run
  run_entry (line_entry.DayPrices day heavy light) before answered left reads applied history run =
      runs_kept history before.book left.book applied.book
      (λ unset. sets_none_up line (Ok (line_entry.DayPrices day heavy light)) reads (λ set_up same. absurd cc)) run
  run_entry (line_entry.HourPrices first last real_time factor) before answered left reads applied history run =
      runs_kept history before.book left.book applied.book
      (λ unset. sets_none_up line (Ok (line_entry.HourPrices first last real_time factor)) reads (λ set_up same. absurd cc)) run
  run_entry (line_entry.Call entry) before answered left reads applied history run =
      run_call entry before answered left before.book left.book applied.book
      (sets_none_up line (Ok (line_entry.Call entry)) reads (λ set_up same. absurd cc)) history run

  run_line : (reading result : Result LineEntry Refusal) (before left : Session) → Reads line reading
      → (applied : ReadingApplied reading result before left) (history : List Made) → Runs lines history before.book
      → Runs more (calls_of_reading reading result before left applied ++ history) left.book
  run_line (Ok entry) result before left reads applied history run =
      run_entry entry before (told result) left reads applied.0 history run
  run_line (Err refusal) result before left reads applied history run =
      runs_kept history before.book left.book (ap (λ s. s.book) applied.1)
      (λ unset. sets_none_up line (Err refusal) reads (λ set_up same. absurd cc)) run

run_course : (start : Session) (lines : List (List ℕ)) (replies : List ℕ) (history : List Made) (session : Session)
    → start.book ≡ None → Course start lines replies history session → Runs lines history session.book
run_course start _ _ _ _ unset begins = subst (Runs [] []) (sym unset) (All-nil SetsNoneUp, refl)
run_course start _ _ _ _ unset (goes_on lines replies history before course line result left taken) =
    run_line lines line taken.reading result before left taken.reads taken.applied history
    (run_course start lines replies history before unset course)

stands : (lines : List (List ℕ)) (history : List Made) (book : Option Book) → Runs lines history book → BookStands lines history book
stands lines history None run = run
stands lines history (Some book) run = record {
  set_up = run.set_up;
  by_line = run.by_line;
  start = run.start;
  run = run.run;
  stands = run_stands run.set_up run.start history book run.run;
}

pub course_stands : (start : Session) (lines : List (List ℕ)) (replies : List ℕ) (history : List Made) (session : Session)
    → start.book ≡ None → Course start lines replies history session → BookStands lines history session.book
course_stands start lines replies history session unset course =
    stands lines history session.book (run_course start lines replies history session unset course)
