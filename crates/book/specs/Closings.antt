-- What a close settles, once all its tests are passed. Assumes nothing.
use Rattle.std.specs.Prelude.{◌≡◌, ℕ, ◌≤◌, List, []}
use Rattle.tariff.specs.Answers.{Answer}
use Rattle.tariff.specs.Division.{Division, LawfulRule, Moves}
use Rattle.tariff.specs.Tables.{Tables}
use Rattle.tally.specs.DayPrices.{needed_prices}
use Rattle.tally.specs.Denials.{answer}
use Rattle.tally.specs.Events.{close_day}
use Rattle.tally.specs.States.{State, IsParty}
use Rattle.tally.specs.Statements.{statement_of}
use Rattle.tally.specs.Turns.{Turns}
use Rattle.tally.specs.Years.{day_charges}
use Rattle.book.specs.SameStatement.{SameStatement}
use Rattle.book.specs.Payments.{statement_in}
use Rattle.book.specs.Records.{at}
use Rattle.book.specs.declared.payment.Payment.{Payment}

-- What a close answers: whatever the rule means at its turns.
abbrev pub close_answer : State → Tables → (most heavy_page light_page : ℕ) → Answer
close_answer state tables most heavy_page light_page = answer state
    (close_day tables most (λ turn total claims. []) heavy_page light_page)

-- The payments in two tables, and what each seller is charged in the day, by the prices of a source; and how the rule
-- that divided make-whole moved.
pub record SettledBy (tables : Tables) (most : ℕ) (moves : Moves) (state : State) (first : Division)
    (heavy light : List (List Payment))
    (charges : List ℕ) (last : Division) : Type 0 where
  pub meanings : ℕ → Division
  pub lawful : (turn : ℕ) → LawfulRule most (meanings turn)
  pub turns : Turns moves state (needed_prices state tables) meanings first last
  pub statement : SameStatement (statement_in heavy light) (statement_of state (needed_prices state tables) meanings)
  pub charged : (seller : ℕ) → IsParty state seller → at 0 charges seller
      ≡ day_charges state (needed_prices state tables) seller
  pub small : (seller : ℕ) → at 0 charges seller ≤ 1152000000000000
