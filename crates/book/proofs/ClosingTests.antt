-- The tests of a close, and what it settles once they are passed. Assumes nothing.
use Rattle.std.proofs.Common.{◌≡◌, ℕ, zero, suc, ◌<◌, ◌≤◌, Bool, true, false, cond, ltb, ◌&&◌, List, refl, sym, ◌∙◌, ap, subst, arith}
use Rattle.std.proofs.lemmas.Bool.{ltb-true, ltb-false}
use mathlib.Core.Logic.{◌⊎◌, inl, inr}
use Rattle.tariff.specs.Answers.{Answer, granted, in_order, ◌then◌}
use Rattle.tariff.specs.Blocks.{hours_of_day}
use Rattle.tariff.specs.Division.{Division, Moves}
use Rattle.tariff.specs.Tables.{Tables}
use Rattle.tariff.specs.declared.blocks.Block.{Block}
use Rattle.tariff.specs.declared.blocks.Block.TheVariants.{Heavy, Light}
use Rattle.tally.specs.AccountLaws.{no_payment}
use Rattle.tally.specs.DayPrices.{DayPrices, needed_prices, needed_quotes_answer}
use Rattle.tally.specs.Denials.{day_is_open, is_page}
use Rattle.tally.specs.MakeWhole.{make_whole_share, sharings_answer}
use Rattle.tally.specs.States.{State, IsParty}
use Rattle.tally.specs.Statements.{statement_of}
use Rattle.tally.specs.Turns.{Turns}
use Rattle.tally.specs.Years.{day_charges}
use Rattle.tally.proofs.MakeWholeSize.{make_whole_size}
use Rattle.tally.proofs.Numbering.{term_le}
use Rattle.tally.proofs.Revenue.{make_whole_adds, sharing_granted}
use Rattle.book.specs.Books.{state_of}
use Rattle.book.specs.SameStatement.{SameStatement}
use Rattle.book.specs.Closings.{close_answer, SettledBy}
use Rattle.book.specs.Payments.{statement_in}
use Rattle.book.specs.PricedDays.{prices_in}
use Rattle.book.specs.Records.{at}
use Rattle.book.specs.PaidTables.{paid, paid_at, PaidIn}
use Rattle.book.specs.Sharing.{Shared, shares_in}
use Rattle.book.specs.declared.book.Book.{Book}
use Rattle.book.specs.declared.payment.Payment.{Payment as PageEntry}
use Rattle.book.specs.declared.priced_day.PricedDay.{PricedDay}
use Rattle.book.proofs.DayPriced.{small_prices}
use Rattle.book.proofs.Facts.{sound_of}
use Rattle.book.proofs.Testing.{granted_then, then_assoc}

-- the last test tells the answer, once those before it are passed
pub last_answer : (state : State) (tables : Tables) (most h l : ℕ) (a : Answer)
    → granted ≡ (is_page state h then is_page state l) → granted ≡ day_is_open state
    → granted ≡ in_order (needed_quotes_answer state tables) hours_of_day
    → a ≡ sharings_answer state (needed_prices state tables) most
    → a ≡ close_answer state tables most h l
last_answer state tables most h l a pages open? quotes is =
    is ∙ granted_then (in_order (needed_quotes_answer state tables) hours_of_day) _ quotes ∙ granted_then (day_is_open state) _ open?
    ∙ granted_then (is_page state h then is_page state l) _ pages ∙ then_assoc (is_page state h) (is_page state l) _

-- no share of make-whole passes what it is a part of
pub shares_small : (book : Book) (prices : PricedDay) (most : ℕ) (moves : Moves) (first last : Division) (heavy light : List (List ℕ))
    → sharings_answer (state_of book) (prices_in prices) most ≡ granted
    → Shared most moves (state_of book) (prices_in prices) first heavy light last
    → (block : Block) (seller buyer : ℕ) → seller < book.pool.parties → buyer < book.pool.parties
    → shares_in heavy light block (suc seller) (suc buyer) ≤ 960000000000
shares_small book prices most moves first last heavy light ok shared block seller buyer l m =
    let state = state_of book in
    let P = prices_in prices in
    let s : IsParty state (suc seller) = (omega arith, omega arith) in
    let b : IsParty state (suc buyer) = (omega arith, omega arith) in
    omega (
      arith,
      shared.shares block (suc seller) (suc buyer) s b,
      term_le (make_whole_share state P shared.meanings block (suc seller)) (suc buyer) state.set_up.parties b.0 b.1,
      make_whole_adds state P most shared.meanings block (suc seller) shared.lawful (sharing_granted state P most block (suc seller) s ok),
      make_whole_size state (sound_of book) block (suc seller) P (small_prices prices),
    )

-- Tables of the payments are the statement, where other numbers than parties' have none. The tables' prices are the day's.
module _ (state : State) (prices : DayPrices) (meanings : ℕ → Division) (shares : Block → ℕ → ℕ → ℕ)
    (shared : (block : Block) (seller buyer : ℕ) → IsParty state seller → IsParty state buyer
    → shares block seller buyer ≡ make_whole_share state prices meanings block seller buyer)
    (absent : (block : Block) (seller buyer : ℕ) → 0 < seller → (state.set_up.parties < seller) ⊎ (state.set_up.parties < buyer)
    → statement_of state prices meanings block seller buyer ≡ no_payment) where
  at_place : (block : Block) (seller buyer : ℕ)
      → paid_at state prices block seller buyer (shares block (suc seller) (suc buyer))
      ≡ statement_of state prices meanings block (suc seller) (suc buyer)
  at_place block seller buyer = by (ltb seller state.set_up.parties) refl (ltb buyer state.set_up.parties) refl
    where
      by : (s : Bool) → ltb seller state.set_up.parties ≡ s → (b : Bool) → ltb buyer state.set_up.parties ≡ b
          → cond (s && b) (paid state prices block (suc seller) (suc buyer) (shares block (suc seller) (suc buyer))) no_payment
          ≡ statement_of state prices meanings block (suc seller) (suc buyer)
      by true e true f =
          let l = ltb-true seller state.set_up.parties e in
          let m = ltb-true buyer state.set_up.parties f in
          ap (paid state prices block (suc seller) (suc buyer))
          (shared block (suc seller) (suc buyer) (omega arith, omega arith) (omega arith, omega arith))
      by true e false f =
          sym (absent block (suc seller) (suc buyer) (omega arith) (inr (omega (arith, ltb-false buyer state.set_up.parties f))))
      by false e b f =
          sym (absent block (suc seller) (suc buyer) (omega arith) (inl (omega (arith, ltb-false seller state.set_up.parties e))))

  pub tables_same : (heavy light : List (List PageEntry)) → PaidIn state prices Heavy (shares Heavy) heavy
      → PaidIn state prices Light (shares Light) light
      → SameStatement (statement_in heavy light) (statement_of state prices meanings)
  tables_same heavy light h l Heavy zero buyer p q r s = absurd (omega arith)
  tables_same heavy light h l Heavy (suc seller) zero p q r s = absurd (omega arith)
  tables_same heavy light h l Heavy (suc seller) (suc buyer) p q r s = h seller buyer q s ∙ at_place Heavy seller buyer
  tables_same heavy light h l Light zero buyer p q r s = absurd (omega arith)
  tables_same heavy light h l Light (suc seller) zero p q r s = absurd (omega arith)
  tables_same heavy light h l Light (suc seller) (suc buyer) p q r s = l seller buyer q s ∙ at_place Light seller buyer

-- what was settled by the prices that a close needs
pub settled_by : (tables : Tables) (most : ℕ) (moves : Moves) (state : State) (prices : DayPrices) (first last : Division)
    (heavy_shares light_shares : List (List ℕ)) (heavy light : List (List PageEntry)) (charges : List ℕ)
    → prices ≡ needed_prices state tables
    → (shared : Shared most moves state prices first heavy_shares light_shares last)
    → SameStatement (statement_in heavy light) (statement_of state prices shared.meanings)
    → ((seller : ℕ) → IsParty state seller → at 0 charges seller ≡ day_charges state prices seller)
    → ((seller : ℕ) → at 0 charges seller ≤ 1152000000000000)
    → SettledBy tables most moves state first heavy light charges last
settled_by tables most moves state prices first last _ _ heavy light charges needed shared same charged small = record {
  meanings = shared.meanings;
  lawful = shared.lawful;
  turns = subst (λ (p : DayPrices). Turns moves state p shared.meanings first last) needed shared.turns;
  statement = subst (λ (p : DayPrices). SameStatement (statement_in heavy light) (statement_of state p shared.meanings)) needed same;
  charged = subst (λ (p : DayPrices). (seller : ℕ) → IsParty state seller → at 0 charges seller ≡ day_charges state p seller) needed
      charged;
  small = small;
}
