-- A call leads from what calls led to, to what one more call leads to. Assumes nothing.
use Rattle.std.proofs.Common.{◌≡◌, ℕ, ◌≤◌, List, [], ◌∷◌, ◌++◌, ℤ, pos, ◌+ℤ◌, ◌∙◌, ap, arith, get_or}
use Rattle.std.proofs.lemmas.Int.{ints}
use Rattle.std.specs.List.{All}
use mathlib.Core.Logic.{∥∥₁_map}
use Rattle.tally.specs.Events.{Event, Lawfully}
use Rattle.tally.specs.Statements.{Statement, due}
use Rattle.tally.specs.Tally.{step, filed, tallied}
use Rattle.book.specs.Led.{Led, Laid}
use Rattle.book.specs.Records.{set_up_in, state_in}
use Rattle.book.specs.declared.records.DayRecord.{DayRecord}
use Rattle.book.specs.declared.records.Pool.{Pool}
use Rattle.book.specs.declared.records.YearRecord.{YearRecord}

-- what is due by two lists of statements
pub due_append : (parties : ℕ) (more statements : List Statement) (account : ℕ)
    → due parties (more ++ statements) account ≡ due parties more account +ℤ due parties statements account
due_append parties [] statements account = omega (arith, ints)
due_append parties (s ∷ more) statements account = let h = due_append parties more statements account in omega (arith, ints, h)

module _ (pool : Pool) (day new_day : DayRecord) (year new_year : YearRecord) (balances new_balances : List ℤ) (event : Event) where
  next : Led pool day year balances → Lawfully event
      → state_in pool new_day new_year ≡ step (state_in pool day year) event
      → ((account : ℕ) → account ≤ pool.parties
      → get_or new_balances account (pos 0) ≡ get_or balances account (pos 0)
      +ℤ due pool.parties (filed (state_in pool day year) event) account)
      → (All Laid day.hours → All Laid new_day.hours)
      → Led pool new_day new_year new_balances
  next led lawful state balance laid = record {
    events = event ∷ led.events;
    proper = led.proper;
    lawful = (lawful, led.lawful);
    state = state ∙ ap (λ s. step s event) led.state;
    paid = λ account l.
        let a = balance account l in
        let b = led.paid account l in
        let made = filed (tallied (set_up_in pool) led.events).state event in
        let c = due_append pool.parties made (tallied (set_up_in pool) led.events).statements account in
        let d = ap (λ s. due pool.parties (filed s event) account) led.state in
        omega (arith, ints, a, b, c, d);
    laid = laid led.laid;
  }

  pub led_next : ∥ Led pool day year balances ∥₁ → Lawfully event
      → state_in pool new_day new_year ≡ step (state_in pool day year) event
      → ((account : ℕ) → account ≤ pool.parties
      → get_or new_balances account (pos 0) ≡ get_or balances account (pos 0)
      +ℤ due pool.parties (filed (state_in pool day year) event) account)
      → (All Laid day.hours → All Laid new_day.hours)
      → ∥ Led pool new_day new_year new_balances ∥₁
  led_next led lawful state balance laid = ∥∥₁_map led (λ l. next l lawful state balance laid)
