-- The ceiling grows with the monthly misses, so it never falls within a year. Assumes nothing.
use Rattle.std.proofs.Common.{◌≡◌, ℕ, ◌+◌, ◌-◌, ◌*◌, ◌<◌, ◌≤◌, refl, add-mul, mul-le-mul_left, arith}
use native.Mathlib.Nat.{mul-sub}
use Rattle.tally.specs.Charges.{ceiling_of}
use Rattle.tally.specs.Events.{Event, start_year}
use Rattle.tally.specs.ChargeLaws.{CeilingNeverFalls}
use Rattle.tally.specs.Numbered.{total, greatest}
use Rattle.tally.specs.Denials.{answer}
use Rattle.tally.specs.States.{State, SetUp, Proper, months_of_year}
use Rattle.tally.specs.Tally.{done, step, tallied}
use Rattle.tally.proofs.Numbering.{total_le, greatest_le, greatest_le_total}
use Rattle.tally.proofs.SetUps.{step_within_full}
use Rattle.tally.proofs.Steps.{if_granted_has, step_set_up, tallied_set_up}

-- all at the step rate, and the largest at as much more as the full rate is above it
rates_apart : (full step largest all : ℕ) → step ≤ full → largest ≤ all
    → full * largest + step * (all - largest) ≡ step * all + (full - step) * largest
rates_apart full step largest all o l =
    let e : (full - step) + step ≡ full = omega arith in
    let s = rw e at (add-mul (full - step) step largest) in
    omega (arith, s, mul-sub step all largest, mul-le-mul_left step l)

-- more in each month, a ceiling that is no lower
pub ceiling_le : (set_up : SetUp) → Proper set_up → (f g : ℕ → ℕ) → ((k : ℕ) → 0 < k → k ≤ months_of_year → f k ≤ g k)
    → ceiling_of set_up f ≤ ceiling_of set_up g
unfolding ceiling_of
ceiling_le set_up proper f g h =
    omega (
      arith,
      apart f,
      apart g,
      mul-le-mul_left set_up.step (total_le f g months_of_year h),
      mul-le-mul_left (set_up.full - set_up.step) (greatest_le f g months_of_year h),
    )
  where
    apart : (f : ℕ → ℕ) → set_up.full * greatest f months_of_year + set_up.step * (total f months_of_year - greatest f months_of_year)
        ≡ set_up.step * total f months_of_year + (set_up.full - set_up.step) * greatest f months_of_year
    apart f = rates_apart set_up.full set_up.step (greatest f months_of_year) (total f months_of_year) (step_within_full set_up proper)
        (greatest_le_total f months_of_year)

-- only a close changes a year's misses, and to none that is below
misses_grow : (state : State) (event : Event) → (event ≡ start_year → ⊥) → (seller month : ℕ) →
    state.year.misses seller month ≤ (done state event).year.misses seller month
misses_grow state start_year n seller m = absurd (n refl)
misses_grow state _ n seller m = omega arith

pub ceiling_never_falls_lem : CeilingNeverFalls
ceiling_never_falls_lem set_up events proper lawful event n seller =
    let state = (tallied set_up events).state in
    rw (step_set_up state event)
    (ceiling_le state.set_up (rw (tallied_set_up set_up events) proper) (state.year.misses seller) ((step state event).year.misses seller)
    (λ k _ _.
    if_granted_has (λ (s : State). state.year.misses seller k ≤ s.year.misses seller k) (answer state event) (done state event) state
    (λ ok. misses_grow state event (λ e. n e ok) seller k) (omega arith)))
