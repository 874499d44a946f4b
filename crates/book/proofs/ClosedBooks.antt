-- What a close leaves. Assumes nothing.
use Rattle.std.proofs.Common.{◌≡◌, ℕ, ◌<◌, ◌≤◌, false, List, [], ◌∷◌, length, ℤ, pos, ◌+ℤ◌, nat_abs, refl, sym, ◌∙◌, ap, subst, arith}
use Rattle.std.proofs.Common.{get_or}
use Rattle.std.proofs.lemmas.Int.{ints}
use Rattle.std.proofs.Props.{props}
use mathlib.Core.Logic.{∥∥₁_elim}
use Rattle.tariff.specs.Answers.{Answer, granted, refused, if_granted}
use Rattle.tariff.specs.Division.{Division, LawfulRule, Moves}
use Rattle.tariff.specs.Tables.{Tables, Limited}
use Rattle.tariff.specs.declared.refusal.Refusal.{Refusal}
use Rattle.tally.specs.DayPrices.{needed_prices}
use Rattle.tally.specs.Events.{Event, close_day, Lawfully}
use Rattle.tally.specs.Statements.{Statement, due, net, statement_of}
use Rattle.tally.specs.States.{SetUp, State, Year, shut}
use Rattle.tally.specs.SizeLaws.{SmallPayment}
use Rattle.tally.specs.Tally.{done, step, filed, tallied}
use Rattle.tally.specs.Years.{year_closed}
use Rattle.tally.proofs.DueSizes.{dues_fit_lem}
use Rattle.tally.proofs.Steps.{tallied_set_up}
use Rattle.book.specs.Books.{state_of}
use Rattle.book.specs.SameStatement.{SameStatement}
use Rattle.book.specs.Closings.{SettledBy, close_answer}
use Rattle.book.specs.EntryStands.{EntryMade}
use Rattle.book.specs.MadeFrom.{AnsweredEntry}
use Rattle.book.specs.Stepped.{Stepped}
use Rattle.book.specs.Led.{Led}
use Rattle.book.specs.Payments.{statement_in}
use Rattle.book.specs.Pages.{statement_on}
use Rattle.book.specs.Posting.{SmallStatement}
use Rattle.book.specs.Records.{set_up_in, state_in, year_in}
use Rattle.book.specs.declared.book.Book.{Book}
use Rattle.book.specs.declared.entry.Entry.TheVariants.{Close}
use Rattle.book.specs.declared.payment.Payment.{Payment}
use Rattle.book.specs.declared.records.DayRecord.{DayRecord}
use Rattle.book.specs.declared.records.YearRecord.{YearRecord}
use Rattle.book.proofs.Alike.{net_same}
use Rattle.book.proofs.Facts.{few_of, small_payment_of}
use Rattle.book.proofs.Calls.{refused_stepped}
use Rattle.book.proofs.Leading.{due_append, led_next}

-- a close, with what answered it
abbrev pub closed_by : Tables → ℕ → Moves → (first last : Division) → Answer → AnsweredEntry
closed_by tables most moves first last answered = record {
  entry = Close;
  tables = tables;
  most = most;
  moves = moves;
  first = first;
  last = last;
  answered = answered;
}

-- a close that is refused leaves all as it was
pub close_refused : (tables : Tables) (most : ℕ) (moves : Moves) (book : Book) (first last : Division) (heavy light : List Payment)
    (a : Answer) (e : Refusal)
    → Limited tables → LawfulRule most first → a ≡ refused e
    → refused e ≡ close_answer (state_of book) tables most (length heavy) (length light) → last ≡ first
    → EntryMade (closed_by tables most moves first last a) book
    (record { old = heavy; new = heavy }) (record { old = light; new = light }) book
close_refused tables most moves book first last heavy light a e limited lawful told is same =
    subst (λ x. EntryMade (closed_by tables most moves first last x) book
    (record { old = heavy; new = heavy }) (record { old = light; new = light }) book) (sym told)
    (record {
      from = record { meanings = λ turn. first; starts = refl; moved = same; heavy_kept = refl; light_kept = refl };
      made = record {
        stepped = refused_stepped book (close_day tables most (λ turn. first) (length heavy) (length light)) e
            (limited, λ turn. lawful) is;
        filled = tt;
      };
    })

-- what a granted close makes of a book
module _ (tables : Tables) (most : ℕ) (moves : Moves) (book : Book) (first last : Division) (heavy light : List (List Payment))
    (charges : List ℕ)
    (settled : SettledBy tables most moves (state_of book) first heavy light charges last) (limited : Limited tables)
    (old_heavy old_light : List Payment)
    (ok : granted ≡ close_answer (state_of book) tables most (length old_heavy) (length old_light)) where
  abbrev event : Event
  event = close_day tables most settled.meanings (length old_heavy) (length old_light)

  abbrev statement : Statement
  statement = statement_of (state_of book) (needed_prices (state_of book) tables) settled.meanings

  lawful : Lawfully event
  lawful = (limited, settled.lawful)

  -- what is posted is what the statement pays
  net_is : (account : ℕ) → account ≤ book.pool.parties
      → net book.pool.parties (statement_in heavy light) account ≡ net book.pool.parties statement account
  net_is = net_same book.pool.parties (few_of book) (statement_in heavy light) statement settled.statement

  pub payments_small : SmallStatement book.pool.parties (statement_in heavy light)
  payments_small = λ block seller l m buyer k n.
      let few = few_of book in
      subst SmallPayment (sym (settled.statement block seller buyer l (omega arith) k (omega arith)))
      (small_payment_of book tables most settled.meanings (length old_heavy) (length old_light) lawful (sym ok) block seller buyer (l, m)
      (k, n))

  -- what stands after the close is due by the tally, which is small
  due_closed : (account : ℕ) → account ≤ book.pool.parties → (led : Led book.pool book.day book.year book.balances)
      → due book.pool.parties (tallied (set_up_in book.pool) (event ∷ led.events)).statements account
      ≡ get_or book.balances account (pos 0) +ℤ net book.pool.parties (statement_in heavy light) account
  due_closed account l led =
      let n = book.pool.parties in
      let tally = tallied (set_up_in book.pool) led.events in
      let a = due_append n (filed tally.state event) tally.statements account in
      let b = ap (λ (s : State). due n (filed s event) account) led.state in
      let f = ap (λ x. due n (if_granted x (statement ∷ []) []) account) ok in
      let e = net_is account l in
      let p = led.paid account l in
      omega (arith, ints, a, b, f, e, p)

  pub balances_fit : (account : ℕ) → account ≤ book.pool.parties
      → nat_abs (get_or book.balances account (pos 0) +ℤ net book.pool.parties (statement_in heavy light) account) ≤ 4000000000000000000
  balances_fit account l =
      ∥∥₁_elim book.led (hlevel props)
      (λ led.
      let n : (tallied (set_up_in book.pool) (event ∷ led.events)).state.set_up.parties ≡ book.pool.parties =
      ap (λ (s : SetUp). s.parties) (tallied_set_up (set_up_in book.pool) (event ∷ led.events)) in
      subst (λ (z : ℤ). nat_abs z ≤ 4000000000000000000) (due_closed account l led)
      (subst (λ (k : ℕ). nat_abs (due k (tallied (set_up_in book.pool) (event ∷ led.events)).statements account) ≤ 4000000000000000000) n
      (dues_fit_lem (set_up_in book.pool) (event ∷ led.events) led.proper (lawful, led.lawful) account (rw n l))))

  -- the day is shut, its year counted, and every payment posted
  module _ (year : YearRecord) (balances : List ℤ)
      (counted : year_in year ≡ year_closed (state_of book) (needed_prices (state_of book) tables))
      (posted : (account : ℕ) → account ≤ book.pool.parties
      → get_or balances account (pos 0) ≡ get_or book.balances account (pos 0) +ℤ net book.pool.parties (statement_in heavy light) account)
      (others : (account : ℕ) → book.pool.parties < account → get_or balances account (pos 0) ≡ get_or book.balances account (pos 0)) where
    abbrev shut_day : DayRecord
    shut_day = record (book.day) { is_open = false }

    state_closed : state_in book.pool shut_day year ≡ step (state_of book) event
    state_closed =
        ap (λ (y : Year). record (state_of book) { day = shut ((state_of book).day); year = y }) counted
        ∙ ap (λ x. if_granted x (done (state_of book) event) (state_of book)) ok

    due_posted : (account : ℕ) → account ≤ book.pool.parties
        → get_or balances account (pos 0) ≡ get_or book.balances account (pos 0)
        +ℤ due book.pool.parties (filed (state_of book) event) account
    due_posted account l =
        let p = posted account l in
        let n = net_is account l in
        let f = ap (λ x. due book.pool.parties (if_granted x (statement ∷ []) []) account) ok in
        omega (arith, ints, p, n, f)

    pub closed_led : ∥ Led book.pool shut_day year balances ∥₁
    closed_led =
        led_next book.pool book.day shut_day book.year year book.balances balances event book.led lawful state_closed due_posted
        (λ laid. laid)

    pub closed_stepped : (led : ∥ Led book.pool shut_day year balances ∥₁)
        → Stepped book event granted (record { pool = book.pool; day = shut_day; year = year; balances = balances; led = led })
    closed_stepped led = record {
      lawful = lawful;
      answers = ok;
      state = state_closed;
      balances = due_posted;
      others = others;
      unchanged = λ n. absurd (n refl);
    }

    pub closed_did : (led : ∥ Led book.pool shut_day year balances ∥₁) (new_heavy new_light : List Payment)
        → SameStatement (statement_on new_heavy new_light) (statement_in heavy light)
        → length new_heavy ≡ length old_heavy → length new_light ≡ length old_light
        → EntryMade (closed_by tables most moves first last granted) book
        (record { old = old_heavy; new = new_heavy }) (record { old = old_light; new = new_light })
        (record { pool = book.pool; day = shut_day; year = year; balances = balances; led = led })
    closed_did led new_heavy new_light same heavy_count light_count = record {
      from = record {
        meanings = settled.meanings;
        starts = settled.turns.starts;
        moved = settled.turns;
        heavy_kept = heavy_count;
        light_kept = light_count;
      };
      made = record {
        stepped = closed_stepped led;
        filled = λ block seller buyer k l m n. same block seller buyer k l m n ∙ settled.statement block seller buyer k l m n;
      };
    }
