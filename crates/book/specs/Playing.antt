-- A list of calls of a book, each with the source, the rule and the pages that it brings. Assumes nothing.
use Rattle.std.specs.Prelude.{◌≡◌, ℕ, List, [], ◌∷◌, reverse}
use Rattle.tariff.specs.Answers.{told}
use Rattle.tariff.specs.Division.{Division, Moves}
use Rattle.tariff.specs.Tables.{Tables}
use Rattle.tally.specs.States.{State, SetUp}
use Rattle.book.specs.Guarantee.{Stands}
use Rattle.book.specs.Histories.{Made, tally_of}
use Rattle.book.specs.MadeFrom.{AnsweredEntry, MadeFrom, call_from}
use Rattle.book.specs.RuleMoves.{SameRule}
use Rattle.book.specs.Runs.{Run}
use Rattle.book.specs.declared.book.Book.{Book}
use Rattle.book.specs.declared.call.Call.{Call}

-- what sources and rules of two types mean
module _ {S R : Type 0} (tables : S → Tables) (most : ℕ) (moves : Moves) (meaning : R → Division) where
  -- an entry of a list, with what answered it
  abbrev pub said_by : (before after : Call S R) → AnsweredEntry
  said_by before after = record {
    entry = before.entry;
    tables = tables before.source;
    most = most;
    moves = moves;
    first = meaning before.rule;
    last = meaning after.rule;
    answered = told after.told;
  }

  -- A call of a list before and after it was made in a state, and what was made of it. Its entry and its source stay, and
  -- its rule unless it was asked.
  pub record Brought (state : State) (before after : Call S R) (call : Made) : Type 0 where
    pub entry : after.entry ≡ before.entry
    pub source : after.source ≡ before.source
    pub same_rule : SameRule before.entry (told after.told) before.rule after.rule
    pub from : MadeFrom (said_by before after)
        (record { old = before.heavy; new = after.heavy }) (record { old = before.light; new = after.light }) state
    pub made : call ≡ call_from from call.left

  -- A list of calls before and after they were made, and what was made of them, one for each, all with the newest
  -- first.
  abbrev pub AllBrought : SetUp → (before after : List (Call S R)) → List Made → Type 0
  AllBrought set_up [] [] [] = Unit {0}
  AllBrought set_up (before ∷ befores) (after ∷ afters) (call ∷ history) =
      Brought (tally_of set_up history).state before after call × AllBrought set_up befores afters history
  AllBrought set_up _ _ _ = ⊥

  -- To what a list of calls, the oldest first, leads from a set-up.
  pub record Played (set_up : SetUp) (before after : List (Call S R)) (book : Book) : Type 0 where
    pub start : Book
    pub history : List Made
    pub brought : AllBrought set_up (reverse before) (reverse after) history
    pub run : Run set_up start history book
    pub stands : Stands set_up start history book
