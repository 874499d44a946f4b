-- A seller's charges on the statements of a year are those of its state, and stay within the ceiling. Assumes nothing.
use Rattle.std.proofs.Common.{◌≡◌, ℕ, ◌≤◌, cond, List, [], ◌∷◌, ◌++◌, ℤ, pos, ◌+ℤ◌, sym, refl, ap, ◌∙◌, ap₂, arith}
use Rattle.tariff.specs.Answers.{Answer, granted, denied, if_granted}
use Rattle.tariff.specs.Blocks.{block_of, hours_of_day, same_block}
use Rattle.tariff.specs.Division.{Division}
use Rattle.tariff.specs.declared.blocks.Block.{Block}
use Rattle.tariff.specs.declared.blocks.Block.TheVariants.{Heavy, Light}
use Rattle.tariff.specs.declared.charges.Cover.{Cover}
use Rattle.tariff.specs.declared.charges.Cover.TheVariants.{Covered, Uncovered}
use Rattle.tally.specs.Charges.{ceiling_of, cut_charge, month_miss, pool_part, buyer_part}
use Rattle.tally.specs.DayPrices.{DayPrices, in_block, needed_prices}
use Rattle.tally.specs.Events.{Event, close_day, start_year}
use Rattle.tally.specs.ChargeLaws.{ChargesWithinCeiling}
use Rattle.tally.specs.Numbered.{total, total_z}
use Rattle.tally.specs.Denials.{answer}
use Rattle.tally.specs.States.{State, SetUp, Proper, hour_at}
use Rattle.tally.specs.Statements.{Statement, statement_of, of_seller, seller_pays, charges_of}
use Rattle.tally.specs.Tally.{done, stated, kept_of_year, tallied}
use Rattle.tally.specs.Years.{day_charges}
use Rattle.tally.proofs.Ceilings.{ceiling_le}
use Rattle.tally.proofs.Cutting.{day_charges_within}
use Rattle.tally.proofs.Numbering.{total_swap, total_z_add, total_z_pos, total_z_same}
use Rattle.tally.proofs.Steps.{if_granted_has, tallied_set_up}

-- what is charged in a year so far is within the ceiling
abbrev Within : ℕ → State → Type 0
Within seller state = state.year.charges seller ≤ ceiling_of state.set_up (state.year.misses seller)

-- a close charges no more than the ceiling still allows, and the ceiling has not fallen
done_within : (seller : ℕ) (state : State) (event : Event) → Proper state.set_up → Within seller state → Within seller (done state event)
done_within seller state (close_day tables most meanings heavy_page light_page) proper w =
    omega (
      arith,
      day_charges_within state (needed_prices state tables) seller,
      ceiling_le state.set_up proper (state.year.misses seller) (month_miss state seller) (λ k _ _. omega arith),
    )
done_within seller state start_year proper w = omega arith
done_within seller state _ proper w = w

tallied_within : (seller : ℕ) (set_up : SetUp) (events : List Event) → Proper set_up → Within seller (tallied set_up events).state
tallied_within seller set_up [] proper = omega arith
tallied_within seller set_up (event ∷ events) proper =
    let state = (tallied set_up events).state in
    let w = tallied_within seller set_up events proper in
    if_granted_has (Within seller) (answer state event) (done state event) state
    (λ _. done_within seller state event (rw (tallied_set_up set_up events) proper) w) w

-- a cut charge is in one page and goes to one payee
one_of_four : (block : Block) (cover : Cover) (x : ℕ) →
    (cond (same_block block Heavy) (pos (pool_part cover x)) (pos 0) +ℤ cond (same_block block Heavy) (pos (buyer_part cover x)) (pos 0))
    +ℤ (cond (same_block block Light) (pos (pool_part cover x)) (pos 0) +ℤ cond (same_block block Light) (pos (buyer_part cover x)) (pos 0))
    ≡ pos x
one_of_four Heavy Covered x = ap pos (omega arith)
one_of_four Heavy Uncovered x = ap pos (omega arith)
one_of_four Light Covered x = ap pos (omega arith)
one_of_four Light Uncovered x = ap pos (omega arith)

-- four sums of figures are one sum of their sums
add_four : (a b c d all : ℕ → ℤ) (n : ℕ) → ((k : ℕ) → (a k +ℤ b k) +ℤ (c k +ℤ d k) ≡ all k) →
    (total_z a n +ℤ total_z b n) +ℤ (total_z c n +ℤ total_z d n) ≡ total_z all n
add_four a b c d all n h =
    ap₂ ◌+ℤ◌ (sym (total_z_add a b n)) (sym (total_z_add c d n))
    ∙ sym (total_z_add (λ k. a k +ℤ b k) (λ k. c k +ℤ d k) n)
    ∙ total_z_same (λ k. (a k +ℤ b k) +ℤ (c k +ℤ d k)) all n (λ k _ _. h k)

module _ (state : State) (prices : DayPrices) (meanings : ℕ → Division) (seller : ℕ) where
  -- a buyer's entries in both pages
  entries : (buyer : ℕ) →
      seller_pays (statement_of state prices meanings Heavy seller buyer)
      +ℤ seller_pays (statement_of state prices meanings Light seller buyer)
      ≡ pos (total (λ hour. cut_charge state prices seller hour buyer) hours_of_day)
  entries buyer =
      add_four (page Heavy pool) (page Heavy other) (page Light pool) (page Light other) (λ hour. pos (charged hour)) hours_of_day
      (λ hour. one_of_four (block_of state.day.kind hour) ((hour_at state hour).cover seller buyer) (charged hour))
      ∙ total_z_pos charged hours_of_day
    where
      charged : ℕ → ℕ
      charged hour = cut_charge state prices seller hour buyer

      pool : ℕ → ℤ
      pool hour = pos (pool_part ((hour_at state hour).cover seller buyer) (charged hour))

      other : ℕ → ℤ
      other hour = pos (buyer_part ((hour_at state hour).cover seller buyer) (charged hour))

      page : Block → (ℕ → ℤ) → ℕ → ℤ
      page block f hour = cond (in_block state block hour) (f hour) (pos 0)

  -- the statement takes from a seller what the day charges it
  pub statement_charges : of_seller state.set_up.parties (statement_of state prices meanings) seller_pays seller
      ≡ pos (day_charges state prices seller)
  unfolding day_charges
  statement_charges =
      let parties = state.set_up.parties in
      sym (total_z_add (paid Heavy) (paid Light) parties)
      ∙ total_z_same (λ buyer. paid Heavy buyer +ℤ paid Light buyer) (λ buyer. pos (charged buyer)) parties (λ buyer _ _. entries buyer)
      ∙ total_z_pos charged parties
      ∙ ap pos (total_swap (λ buyer hour. cut_charge state prices seller hour buyer) parties hours_of_day)
    where
      paid : Block → ℕ → ℤ
      paid block buyer = seller_pays (statement_of state prices meanings block seller buyer)

      charged : ℕ → ℕ
      charged buyer = total (λ hour. cut_charge state prices seller hour buyer) hours_of_day

-- the charges on the statements of a year are those that its state has
abbrev Counted : ℕ → State → List Statement → Type 0
Counted seller state statements = charges_of state.set_up.parties statements seller ≡ pos (state.year.charges seller)

-- a close adds the same to both, and the start of a year sets both to 0
done_counted : (seller : ℕ) (state : State) (event : Event) (statements : List Statement) → Counted seller state statements →
    Counted seller (done state event) (stated state event ++ kept_of_year event statements)
done_counted seller state (close_day tables most meanings heavy_page light_page) statements c =
    ap₂ ◌+ℤ◌ (statement_charges state (needed_prices state tables) meanings seller) c ∙ ap pos (omega arith)
done_counted seller state start_year statements c = refl
done_counted seller state _ statements c = c

-- granted or denied, the state and the statements of the year keep together
tell_counted : (seller : ℕ) (a : Answer) (new old : State) (made kept before : List Statement) →
    Counted seller new (made ++ kept) → Counted seller old before
    → Counted seller (if_granted a new old) (if_granted a made [] ++ if_granted a kept before)
tell_counted seller granted new old made kept before n o = n
tell_counted seller (denied number first second) new old made kept before n o = o

tallied_counted : (seller : ℕ) (set_up : SetUp) (events : List Event)
    → Counted seller (tallied set_up events).state (tallied set_up events).of_year
tallied_counted seller set_up [] = refl
tallied_counted seller set_up (event ∷ events) =
    let tally = tallied set_up events in
    let state = tally.state in
    let c = tallied_counted seller set_up events in
    tell_counted seller (answer state event) (done state event) state (stated state event) (kept_of_year event tally.of_year) tally.of_year
    (done_counted seller state event tally.of_year c) c

pub charges_within_ceiling_lem : ChargesWithinCeiling
charges_within_ceiling_lem set_up events proper lawful seller = record {
  counted = tallied_counted seller set_up events;
  within = tallied_within seller set_up events proper;
}
