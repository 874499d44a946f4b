-- What a call leaves that makes no statement. Assumes nothing.
use Rattle.std.proofs.Common.{◌≡◌, ℕ, [], ℤ, pos, nat_abs, ◌+ℤ◌, get_or, refl, sym, ◌∙◌, ap, ap₂, arith}
use Rattle.std.proofs.lemmas.Int.{ints}
use Rattle.std.specs.List.{All}
use Rattle.tariff.specs.Answers.{granted, refused, if_granted}
use Rattle.tariff.specs.declared.refusal.Refusal.{Refusal}
use Rattle.tally.specs.Denials.{answer}
use Rattle.tally.specs.Events.{Event, Lawfully}
use Rattle.tally.specs.Hours.{Hour}
use Rattle.tally.specs.Statements.{due}
use Rattle.tally.specs.States.{State, on_hour}
use Rattle.tally.specs.Tally.{step, done, stated, filed}
use Rattle.book.specs.Books.{state_of}
use Rattle.book.specs.Stepped.{Stepped}
use Rattle.book.specs.HourEntries.{Admitted, Changed, written}
use Rattle.book.specs.Led.{Led, Laid}
use Rattle.book.specs.Records.{state_in}
use Rattle.book.specs.declared.book.Book.{Book}
use Rattle.book.specs.declared.hours.HourEntry.{HourEntry}
use Rattle.book.specs.declared.records.DayRecord.{DayRecord}
use Rattle.book.specs.declared.records.YearRecord.{YearRecord}
use Rattle.book.proofs.Leading.{led_next}

-- a granted call that leaves such a day and year
pub record Granted (b : Book) (day : DayRecord) (year : YearRecord) (event : Event) : Type 0 where
  pub lawful : Lawfully event
  pub answers : granted ≡ answer (state_of b) event
  pub does : state_in b.pool day year ≡ done (state_of b) event
  pub unstated : stated (state_of b) event ≡ []
  pub laid : All Laid b.day.hours → All Laid day.hours

module _ (b : Book) (day : DayRecord) (year : YearRecord) (event : Event) (call : Granted b day year event) where
  stepped : state_in b.pool day year ≡ step (state_of b) event
  stepped = call.does ∙ ap (λ a. if_granted a (done (state_of b) event) (state_of b)) call.answers

  unpaid : (account : ℕ) → get_or b.balances account (pos 0) ≡ get_or b.balances account (pos 0)
      +ℤ due b.pool.parties (filed (state_of b) event) account
  unpaid account =
      let e = ap (λ a. due b.pool.parties (if_granted a (stated (state_of b) event) []) account) call.answers in
      let f = ap (λ made. due b.pool.parties made account) call.unstated in
      omega (arith, ints, e, f)

  -- calls led to what it leaves
  pub granted_led : ∥ Led b.pool day year b.balances ∥₁
  granted_led =
      led_next b.pool b.day day b.year year b.balances b.balances event b.led call.lawful stepped (λ account l. unpaid account) call.laid

  -- and the book's contract tells it
  pub granted_stepped : (led : ∥ Led b.pool day year b.balances ∥₁)
      → Stepped b event granted (record { pool = b.pool; day = day; year = year; balances = b.balances; led = led })
  granted_stepped led = record {
    lawful = call.lawful;
    answers = call.answers;
    state = stepped;
    balances = λ account l. unpaid account;
    others = λ account l. refl;
    unchanged = λ denied. absurd (denied refl);
  }

-- the call of an entry that its hour admits
pub entry_granted : (b : Book) (new : DayRecord) (event : Event) (hour : ℤ) (entry : HourEntry) (found : ℕ × HourEntry) (parts : ℕ → ℕ)
    → Lawfully event → granted ≡ answer (state_of b) event → Admitted (state_of b) hour entry found
    → Changed found.0 (written found.1 parts) b.day new
    → done (state_of b) event ≡ on_hour (nat_abs hour) (written entry parts) (state_of b) → stated (state_of b) event ≡ []
    → Granted b new b.year event
entry_granted b new event hour entry found parts lawful answers admitted changed does unstated = record {
  lawful = lawful;
  answers = answers;
  does =
      ap (λ day. state_in b.pool day b.year) changed.rest ∙ ap with_hours changed.hours
      ∙ ap₂ (λ h e. on_hour h (written e parts) (state_of b)) admitted.hour_is admitted.entry_is ∙ sym does;
  unstated = unstated;
  laid = changed.laid;
}
  where
    with_hours : (ℕ → Hour) → State
    with_hours hours = record (state_of b) { day = record ((state_of b).day) { hours = hours } }

-- a call that is refused before it changes anything
pub refused_stepped : (b : Book) (event : Event) (e : Refusal) → Lawfully event → refused e ≡ answer (state_of b) event
    → Stepped b event (refused e) b
refused_stepped b event e lawful is = record {
  lawful = lawful;
  answers = is;
  state = ap (λ x. if_granted x (done (state_of b) event) (state_of b)) is;
  balances = λ account l.
      let f = ap (λ x. due b.pool.parties (if_granted x (stated (state_of b) event) []) account) is in
      omega (arith, ints, f);
  others = λ account l. refl;
  unchanged = λ _. record { pool = refl; day = refl; year = refl; balances = refl };
}
