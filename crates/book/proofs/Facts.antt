-- What is known of every book: what the tally's laws say of what calls lead to. Assumes nothing.
use Rattle.std.proofs.Common.{◌≡◌, ℕ, ◌<◌, ◌≤◌, sym, subst}
use Rattle.std.proofs.Props.{props}
use Rattle.std.specs.List.{All}
use mathlib.Core.Logic.{∥∥₁_elim, ◌⊎◌}
use Rattle.tariff.specs.Answers.{granted}
use Rattle.tariff.specs.Division.{Division}
use Rattle.tariff.specs.Tables.{Tables}
use Rattle.tariff.specs.declared.blocks.Block.{Block}
use Rattle.tally.specs.AccountLaws.{no_payment}
use Rattle.tally.specs.DayPrices.{DayPrices, needed_prices}
use Rattle.tally.specs.Denials.{answer}
use Rattle.tally.specs.Events.{close_day, Lawfully}
use Rattle.tally.specs.Laws.{AtEachClose}
use Rattle.tally.specs.States.{State, IsParty}
use Rattle.tally.specs.SizeLaws.{SmallPayment}
use Rattle.tally.specs.Statements.{Statement, statement_of}
use Rattle.tally.proofs.Absent.{only_parties_pay_lem}
use Rattle.tally.proofs.PaymentSizes.{payments_fit_lem}
use Rattle.tally.proofs.SetUps.{few_parties}
use Rattle.tally.proofs.Sound.{Sound, sound}
use Rattle.book.specs.Books.{state_of}
use Rattle.book.specs.Led.{Led, Laid}
use Rattle.book.specs.Records.{set_up_in}
use Rattle.book.specs.declared.book.Book.{Book}

sound_prop : (state : State) → IsProp (Sound state)
sound_prop state = hlevel props

-- the sizes of its figures and what they keep
pub sound_of : (book : Book) → Sound (state_of book)
sound_of book =
    ∥∥₁_elim book.led (sound_prop (state_of book))
    (λ led. subst Sound (sym led.state) (sound (set_up_in book.pool) led.events led.proper led.lawful))

-- from 2 to 12 parties
pub few_of : (book : Book) → book.pool.parties ≤ 12
few_of book = few_parties (set_up_in book.pool) (sound_of book).proper

laid_prop : (book : Book) → IsProp (All Laid book.day.hours)
laid_prop book = hlevel props

-- its pairs are laid
pub laid_of : (book : Book) → All Laid book.day.hours
laid_of book = ∥∥₁_elim book.led (laid_prop book) (λ led. led.laid)

-- what a granted close of it states: nothing of a number that is no party's, and small payments
module _ (book : Book) (tables : Tables) (most : ℕ) (meanings : ℕ → Division) (heavy_page light_page : ℕ)
    (lawful : Lawfully (close_day tables most meanings heavy_page light_page))
    (ok : answer (state_of book) (close_day tables most meanings heavy_page light_page) ≡ granted) where
  abbrev closed : Statement
  closed = statement_of (state_of book) (needed_prices (state_of book) tables) meanings

  -- from the tally's state to the book's
  told_of : (P : State → DayPrices → Statement → Type 0) → AtEachClose P
      → (led : Led book.pool book.day book.year book.balances) → P (state_of book) (needed_prices (state_of book) tables) closed
  told_of P law led =
      subst (λ (s : State). answer s (close_day tables most meanings heavy_page light_page) ≡ granted
      → P s (needed_prices s tables) (statement_of s (needed_prices s tables) meanings)) (sym led.state)
      (law (set_up_in book.pool) led.events led.proper led.lawful tables most meanings heavy_page light_page lawful) ok

  pub absent_of : (block : Block) (seller buyer : ℕ) → 0 < seller → (book.pool.parties < seller) ⊎ (book.pool.parties < buyer)
      → closed block seller buyer ≡ no_payment
  absent_of block seller buyer l absent = ∥∥₁_elim book.led (hlevel props) (λ led. told_of
      (λ state prices statement. (b : Block) (s t : ℕ) → 0 < s → (state.set_up.parties < s) ⊎ (state.set_up.parties < t)
      → statement b s t ≡ no_payment)
      only_parties_pay_lem led block seller buyer l absent)

  small_prop : (block : Block) (seller buyer : ℕ) → IsProp (SmallPayment (closed block seller buyer))
  small_prop block seller buyer = hlevel props

  pub small_payment_of : (block : Block) (seller buyer : ℕ) → IsParty (state_of book) seller → IsParty (state_of book) buyer
      → SmallPayment (closed block seller buyer)
  small_payment_of block seller buyer s b =
      ∥∥₁_elim book.led (small_prop block seller buyer) (λ led. told_of
      (λ state prices statement. (b : Block) (s t : ℕ) → IsParty state s → IsParty state t → SmallPayment (statement b s t))
      payments_fit_lem led block seller buyer s b)
