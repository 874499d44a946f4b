-- Rows and tables of payments, party by party. Assumes nothing.
use Rattle.std.proofs.Common.{◌≡◌, ℕ, zero, suc, ◌+◌, ◌<◌, ◌≤◌, Bool, true, false, cond, ltb, ◌&&◌, List, [], ◌∷◌, map, length, get_or, set}
use Rattle.std.proofs.Common.{replicate, refl, sym, ◌∙◌, ap, arith}
use Rattle.std.proofs.lemmas.Bool.{cases_lt, ltb-true, ltb-false}
use Rattle.std.proofs.lemmas.List.{length-set, get_or-set_other}
use mathlib.Core.Logic.{⊎_elim}
use Rattle.tariff.specs.declared.blocks.Block.{Block}
use Rattle.tally.specs.AccountLaws.{no_payment}
use Rattle.tally.specs.DayPrices.{DayPrices}
use Rattle.tally.specs.States.{State}
use Rattle.tally.specs.Statements.{Payment}
use Rattle.book.proofs.Blanks.{at_row}
use Rattle.book.proofs.RowWrites.{place_next}
use Rattle.book.specs.Pages.{nothing}
use Rattle.book.specs.Payments.{payment_of}
use Rattle.book.specs.PaidTables.{paid, paid_at, PaidIn}
use Rattle.book.specs.declared.payment.Payment.{Payment as PageEntry}

-- what a place has, whether or not it is a party's
pub paid_at_place : (state : State) (prices : DayPrices) (block : Block) (seller buyer share : ℕ) (payment : Payment)
    → (seller < state.set_up.parties → buyer < state.set_up.parties → payment ≡ paid state prices block (suc seller) (suc buyer) share)
    → (state.set_up.parties ≤ seller → payment ≡ no_payment) → (state.set_up.parties ≤ buyer → payment ≡ no_payment)
    → payment ≡ paid_at state prices block seller buyer share
paid_at_place state prices block seller buyer share payment both no_seller no_buyer =
    by (ltb seller state.set_up.parties) refl (ltb buyer state.set_up.parties) refl
  where
    by : (s : Bool) → ltb seller state.set_up.parties ≡ s → (b : Bool) → ltb buyer state.set_up.parties ≡ b
        → payment ≡ cond (s && b) (paid state prices block (suc seller) (suc buyer) share) no_payment
    by true e true f = both (ltb-true _ _ e) (ltb-true _ _ f)
    by true e false f = no_buyer (ltb-false _ _ f)
    by false e b f = no_seller (ltb-false _ _ e)

-- an entry of a row, by number
pub row_read : (row : List PageEntry) (place : ℕ) → get_or (map payment_of row) place no_payment ≡ payment_of (get_or row place nothing)
row_read [] place = refl
row_read (x ∷ xs) zero = refl
row_read (x ∷ xs) (suc place) = row_read xs place

-- a table of which the rows of the first sellers are written
pub record Rows (state : State) (prices : DayPrices) (block : Block) (shares : ℕ → ℕ → ℕ) (count : ℕ)
    (rows : List (List PageEntry)) : Type 0 where
  pub long : length rows ≡ 12
  pub done : (seller buyer : ℕ) → seller < count → buyer < 12
      → payment_of (get_or (get_or rows seller []) buyer nothing)
      ≡ paid_at state prices block seller buyer (shares (suc seller) (suc buyer))
  pub rest : (seller buyer : ℕ) → count ≤ seller → payment_of (get_or (get_or rows seller []) buyer nothing) ≡ no_payment

-- of which none is
pub rows_none : (state : State) (prices : DayPrices) (block : Block) (shares : ℕ → ℕ → ℕ)
    → Rows state prices block shares 0 (replicate 12 (replicate 12 nothing))
rows_none state prices block shares = record {
  long = refl;
  done = λ seller buyer l m. absurd (omega arith);
  rest = λ seller buyer l. ap payment_of (at_row 12 12 nothing (suc seller) (suc buyer));
}

module _ (state : State) (prices : DayPrices) (block : Block) (shares : ℕ → ℕ → ℕ) (count : ℕ) (rows : List (List PageEntry))
    (old : Rows state prices block shares count rows) where
  -- one more row
  pub rows_more : (row : List PageEntry) → count < 12
      → ((buyer : ℕ) → buyer < 12 → payment_of (get_or row buyer nothing)
      ≡ paid_at state prices block count buyer (shares (suc count) (suc buyer)))
      → Rows state prices block shares (count + 1) (set rows count row)
  rows_more row l new = record {
    long = length-set rows count row ∙ old.long;
    done = λ seller buyer m b.
        place_next [] rows count row
        (λ s (r : List PageEntry). (k : ℕ) → k < 12 → payment_of (get_or r k nothing)
        ≡ paid_at state prices block s k (shares (suc s) (suc k)))
        (rw old.long l) new (λ s p k q. old.done s k p q) seller m buyer b;
    rest = λ seller buyer m.
        ap (λ r. payment_of (get_or r buyer nothing)) (get_or-set_other rows count seller row [] (λ e. absurd (omega arith)))
        ∙ old.rest seller buyer (omega arith);
  }

  -- all rows, where the first ones are those of the parties
  pub rows_all : count ≡ state.set_up.parties → PaidIn state prices block shares rows
  rows_all e seller buyer l m = row_read (get_or rows seller []) buyer ∙ ⊎_elim
      (λ (s : seller < count). old.done seller buyer s m)
      (λ (s : count ≤ seller). old.rest seller buyer s ∙ sym (unknown (ltb seller state.set_up.parties) refl (omega arith)))
      (cases_lt seller count)
    where
      unknown : (b : Bool) → ltb seller state.set_up.parties ≡ b → state.set_up.parties ≤ seller
          → paid_at state prices block seller buyer (shares (suc seller) (suc buyer)) ≡ no_payment
      unknown true f n = absurd (omega (arith, ltb-true seller state.set_up.parties f))
      unknown false f n =
          ap (λ b. cond (b && ltb buyer state.set_up.parties)
          (paid state prices block (suc seller) (suc buyer) (shares (suc seller) (suc buyer))) no_payment) f
