-- What is written of a line. Assumes nothing.
use Rattle.std.specs.Prelude.{ℕ, zero, suc, List, [], ◌∷◌, ◌++◌, codes, Result, Ok, Err, Option, Some}
use Rattle.std.specs.Fmt.{decimal, signed_decimal}
use Rattle.std.specs.List.{join_with_byte}
use Rattle.tariff.specs.Refusals.{number_of, places_of}
use Rattle.tariff.specs.declared.refusal.Refusal.{Refusal}
use Rattle.book.specs.Books.{balance}
use Rattle.book.specs.declared.book.Book.{Book}
use Rattle.book.specs.declared.entry.Entry.TheVariants.{Close}
use Rattle.lines.specs.Shapes.{letter_of, shape_of}
use Rattle.lines.specs.declared.entry.LineEntry.{LineEntry}
use Rattle.lines.specs.declared.entry.LineEntry.TheVariants.{Call}
use Rattle.session.specs.declared.session.Session.{Session}

-- fields parted by one tab, and a line feed
abbrev pub tabbed : List (List ℕ) → List ℕ
tabbed fields = join_with_byte 9 fields ++ codes "\n"

-- what an account has
abbrev pub balance_text : Book → (account : ℕ) → List ℕ
balance_text book account = tabbed (codes "=" ∷ decimal account ∷ signed_decimal (balance book account) ∷ [])

-- what each of the first accounts has, the pool's first
abbrev pub balances_text : Book → (accounts : ℕ) → List ℕ
balances_text book zero = []
balances_text book (suc account) = balances_text book account ++ balance_text book account

-- after an accepted close, the balances of the pool's account and of each party's
abbrev pub closing_text : LineEntry → Option Book → List ℕ
closing_text (Call Close) (Some book) = balances_text book (suc book.pool.parties)
closing_text _ _ = []

-- of an accepted entry its letter, of a refusal its number and its two places
abbrev pub reply_text : Session → Result LineEntry Refusal → List ℕ
reply_text session (Ok entry) = tabbed (codes "+" ∷ (letter_of (shape_of entry) ∷ []) ∷ []) ++ closing_text entry session.book
reply_text session (Err refusal) =
    tabbed (codes "!" ∷ decimal (number_of refusal) ∷ decimal (places_of refusal).0 ∷ decimal (places_of refusal).1 ∷ [])
