-- What is guaranteed after each call of any list of calls. Assumes nothing.
use Rattle.std.specs.Prelude.{◌≡◌, ◌≢◌, ℕ, ◌≤◌, true, List, [], ◌∷◌, ℤ, pos, ◌+ℤ◌}
use Rattle.tariff.specs.Answers.{Answer, granted}
use Rattle.tariff.specs.declared.blocks.Block.{Block}
use Rattle.tally.specs.ChargeLaws.{standing_ceiling}
use Rattle.tally.specs.DayPrices.{needed_prices}
use Rattle.tally.specs.Denials.{answer}
use Rattle.tally.specs.Events.{Event, close_day, Lawfully}
use Rattle.tally.specs.Numbered.{total_z}
use Rattle.tally.specs.PairLaws.{Met}
use Rattle.tally.specs.Pairs.{pair}
use Rattle.tally.specs.RevenueLaws.{Reached}
use Rattle.tally.specs.Statements.{Statement, due, charges_of}
use Rattle.tally.specs.States.{State, SetUp, IsParty, hour_at}
use Rattle.tally.specs.Tally.{Tally}
use Rattle.book.specs.Books.{state_of, balance, pairs_at}
use Rattle.book.specs.Stepped.{Same}
use Rattle.book.specs.Histories.{Made, tally_of, statements_of, statements_of_year}
use Rattle.book.specs.Runs.{FilledBy}
use Rattle.book.specs.declared.book.Book.{Book}

-- what all balances come to, the pool's with them
abbrev pub all_balances : ℕ → Book → ℤ
all_balances parties book = balance book 0 +ℤ total_z (balance book) parties

-- What holds of the book that a list of calls leaves, where the tally of the list is as given.
pub record BookHolds (tally : Tally) (history : List Made) (book : Book) : Type 0 where
  -- the book's records say what the tally says
  pub state : state_of book ≡ tally.state
  -- In each allotted hour the book's own pairs are the tally's, and they meet: every buyer's add up to its confirmed
  -- request, and every seller's to its holding, which stays within its counted offer plus surplus.
  pub laid : (hour : ℕ) → (hour_at tally.state hour).allotted ≡ true
      → pairs_at book hour ≡ pair (hour_at tally.state hour)
  pub met : (hour : ℕ) → (hour_at tally.state hour).allotted ≡ true → Met tally.state (hour_at tally.state hour)
  -- Balances add up to 0, and each is what the statements of all closed days paid to its account less what they took.
  pub zero : all_balances tally.state.set_up.parties book ≡ pos 0
  pub paid : (account : ℕ) → account ≤ tally.state.set_up.parties
      → balance book account ≡ due tally.state.set_up.parties (statements_of history) account
  -- What the statements of the program year charge to a party stays within its ceiling.
  pub charged : (seller : ℕ) → IsParty tally.state seller
      → charges_of tally.state.set_up.parties (statements_of_year history) seller
      ≡ pos (tally.state.year.charges seller)
  pub capped : (seller : ℕ) → tally.state.year.charges seller ≤ standing_ceiling tally seller

-- What a seller's buyers pay on the pages of an accepted close, make-whole included, and its credits reach its block
-- sale revenue, and equal it where make-whole is above 0.
abbrev pub ReachedBy : State → Event → Answer → Statement → Type 0
ReachedBy state (close_day tables most meanings heavy_page light_page) granted pages =
    (block : Block) (seller : ℕ) → IsParty state seller → Reached state (needed_prices state tables) pages block seller
ReachedBy state _ answered pages = Unit {0}

-- What holds of one call after others: a call is denied just where the rules say so.
pub record CallStands (set_up : SetUp) (before : Book) (history : List Made) (call : Made) : Type 0 where
  pub lawful : Lawfully call.event
  pub answered : call.answered ≡ answer (tally_of set_up history).state call.event
  -- and a denied call changes nothing
  pub unchanged : call.answered ≢ granted → Same before call.left
  -- an accepted close leaves the tally's statement on its pages, all five figures of each entry
  pub filled : FilledBy (tally_of set_up history).state call.event call.answered call.pages
  pub reached : ReachedBy (tally_of set_up history).state call.event call.answered call.pages
  pub holds : BookHolds (tally_of set_up (call ∷ history)) (call ∷ history) call.left

-- the book that calls left, and the one that was set up where there were none
abbrev pub left_by : Book → List Made → Book
left_by start [] = start
left_by start (call ∷ history) = call.left

-- of each call of a list
abbrev pub AllCallsStand : SetUp → Book → List Made → Type 0
AllCallsStand set_up start [] = Unit {0}
AllCallsStand set_up start (call ∷ history) =
    CallStands set_up (left_by start history) history call × AllCallsStand set_up start history

-- The guarantee, whole: it holds of the book that a list of calls left, and held after each of them.
pub record Stands (set_up : SetUp) (start : Book) (history : List Made) (book : Book) : Type 0 where
  pub now : BookHolds (tally_of set_up history) history book
  pub each : AllCallsStand set_up start history
