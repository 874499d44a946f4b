-- One call of a book. Assumes nothing.
use Rattle.std.specs.Prelude.{◌≡◌, ◌≢◌, ℕ, ◌<◌, ◌≤◌, ◌+ℤ◌}
use Rattle.tariff.specs.Answers.{Answer, granted}
use Rattle.tally.specs.Denials.{answer}
use Rattle.tally.specs.Events.{Event, Lawfully}
use Rattle.tally.specs.Statements.{due}
use Rattle.tally.specs.Tally.{step, filed}
use Rattle.book.specs.Books.{state_of, balance}
use Rattle.book.specs.declared.book.Book.{Book}

-- the same records
pub record Same (before after : Book) : Type 0 where
  pub pool : after.pool ≡ before.pool
  pub day : after.day ≡ before.day
  pub year : after.year ≡ before.year
  pub balances : after.balances ≡ before.balances

-- A book took a step as the tally does: what the call answers, the state and the balances that it leaves. Where it is
-- denied, it leaves every record as it was.
pub record Stepped (before : Book) (event : Event) (answered : Answer) (after : Book) : Type 0 where
  pub lawful : Lawfully event
  pub answers : answered ≡ answer (state_of before) event
  pub state : state_of after ≡ step (state_of before) event
  pub balances : (account : ℕ) → account ≤ before.pool.parties
      → balance after account ≡ balance before account +ℤ due before.pool.parties
      (filed (state_of before) event) account
  -- an account above the last party's has what it had
  pub others : (account : ℕ) → before.pool.parties < account → balance after account ≡ balance before account
  pub unchanged : answered ≢ granted → Same before after
