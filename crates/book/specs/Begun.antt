-- A book that was just set up. Assumes nothing.
use Rattle.std.specs.Prelude.{◌≡◌, ℕ, pos}
use Rattle.tally.specs.States.{SetUp, Proper, fresh}
use Rattle.book.specs.Books.{state_of, balance}
use Rattle.book.specs.declared.book.Book.{Book}

-- no day was opened, and every balance is 0
pub record Begun (set_up : SetUp) (book : Book) : Type 0 where
  pub proper : Proper set_up
  pub state : state_of book ≡ fresh set_up
  pub balances : (account : ℕ) → balance book account ≡ pos 0
