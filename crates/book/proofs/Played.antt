-- One call more of a list. Assumes nothing.
use Rattle.std.proofs.Common.{◌≡◌, ◌≢◌, ℕ, ◌+◌, ◌<◌, ◌≤◌, List, [], ◌∷◌, length, reverse, take, get_or, set, refl, sym, ◌∙◌, ap, subst₂}
use Rattle.std.proofs.Common.{arith, get_or-set_other}
use Rattle.std.proofs.lemmas.List.{reverse-append, take_all, take_more, take_more_set}
use Rattle.tariff.specs.Answers.{told}
use Rattle.tariff.specs.Division.{Division, Moves}
use Rattle.tariff.specs.Tables.{Tables}
use Rattle.tally.specs.States.{SetUp}
use Rattle.book.specs.Begun.{Begun}
use Rattle.book.specs.EntryStands.{EntryStands}
use Rattle.book.specs.Histories.{Made}
use Rattle.book.specs.MadeFrom.{call_from}
use Rattle.book.specs.Playing.{said_by, AllBrought, Played}
use Rattle.book.specs.RuleMoves.{SameRule}
use Rattle.book.specs.Runs.{Run, begun}
use Rattle.book.specs.declared.book.Book.{Book}
use Rattle.book.specs.declared.call.Call.{Call}
use Rattle.book.proofs.Entering.{run_on, made_from}
use Rattle.book.proofs.Standing.{run_stands}

-- the first elements of a list, the last of them first
newest_set : {A : Type 0} (xs : List A) (i : ℕ) (x : A) → i < length xs → reverse (take (i + 1) (set xs i x)) ≡ x ∷ reverse (take i xs)
newest_set xs i x l = ap reverse (take_more_set xs i x l) ∙ reverse-append (take i xs) (x ∷ [])

newest : {A : Type 0} (xs : List A) (i : ℕ) (d : A) → i < length xs → reverse (take (i + 1) xs) ≡ get_or xs i d ∷ reverse (take i xs)
newest xs i d l = ap reverse (take_more xs i d l) ∙ reverse-append (take i xs) (get_or xs i d ∷ [])

module _ {S R : Type 0} (tables : S → Tables) (most : ℕ) (moves : Moves) (meaning : R → Division) (set_up : SetUp) where
  -- the first calls of a list are made, the others are as they were
  pub record Playing (before now : List (Call S R)) (count : ℕ) (book : Book) : Type 0 where
    pub start : Book
    pub history : List Made
    pub brought : AllBrought tables most moves meaning set_up (reverse (take count before)) (reverse (take count now)) history
    pub run : Run set_up start history book
    pub rest : (k : ℕ) (d : Call S R) → count ≤ k → get_or now k d ≡ get_or before k d

  pub playing_none : (calls : List (Call S R)) (book : Book) → Begun set_up book → Playing calls calls 0 book
  playing_none calls book fresh = record { start = book; history = []; brought = tt; run = begun fresh; rest = λ k d l. refl }

  module _ (before now : List (Call S R)) (i : ℕ) (book left : Book) (d new : Call S R) (p : Playing before now i book)
      (l : i < length before) (m : i < length now) where
    abbrev call : Call S R
    call = get_or now i d

    pub playing_more : EntryStands (said_by tables most moves meaning call new) book
        (record { old = call.heavy; new = new.heavy }) (record { old = call.light; new = new.light }) left
        → new.entry ≡ call.entry → new.source ≡ call.source → SameRule call.entry (told new.told) call.rule new.rule
        → Playing before (set now i new) (i + 1) left
    playing_more stands entry source same_rule = record {
      start = p.start;
      history = call_from stands.did.from left ∷ p.history;
      brought =
          subst₂ (λ befores afters. AllBrought tables most moves meaning set_up befores afters (call_from stands.did.from left ∷ p.history))
          (sym (newest before i d l ∙ ap (λ c. c ∷ reverse (take i before)) (sym (p.rest i d (omega arith)))))
          (sym (newest_set now i new m))
          (record { entry = entry; source = source; same_rule = same_rule; from = made_from stands.did p.run; made = refl }, p.brought);
      run = run_on stands.did p.run;
      rest = λ k e h. let ne : k ≢ i = omega arith in rw get_or-set_other (p.rest k e (omega arith));
    }

  pub playing_all : (before now : List (Call S R)) (i : ℕ) (book : Book) → Playing before now i book → length before ≤ i → length now ≤ i
      → Played tables most moves meaning set_up before now book
  playing_all before now i book p l m = record {
    start = p.start;
    history = p.history;
    brought =
        subst₂ (λ befores afters. AllBrought tables most moves meaning set_up (reverse befores) (reverse afters) p.history)
        (take_all i before l) (take_all i now m) p.brought;
    run = p.run;
    stands = run_stands set_up p.start p.history book p.run;
  }
