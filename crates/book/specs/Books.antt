-- A book in the words of the tally. Assumes nothing.
use Rattle.std.specs.Prelude.{ℕ, ℤ, pos, [], map, slice_index_or}
use Rattle.tally.specs.States.{State}
use Rattle.book.specs.Records.{at, by_seller, held_of, state_in}
use Rattle.book.specs.declared.book.Book.{Book}

-- what its records say
abbrev pub state_of : Book → State
state_of book = state_in book.pool book.day book.year

-- what an account has
abbrev pub balance : Book → ℕ → ℤ
balance book account = slice_index_or book.balances account (pos 0)

-- the pairs that the book has of an hour, by its number
abbrev pub pairs_at : Book → ℕ → (seller buyer : ℕ) → ℕ
pairs_at book hour = by_seller 0 (at [] (map (λ record_. (held_of record_).pairs) book.day.hours) hour)
