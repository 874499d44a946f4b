-- The sizes of the prices by which a day is settled. Assumes nothing.
use Rattle.std.proofs.Common.{ℕ, ◌*◌, ◌≤◌, Bool, true, false, cond, ℤ, pos, ◌+ℤ◌, ◌-ℤ◌, ◌*ℤ◌}
use Rattle.std.proofs.Common.{nat_abs, ◌≤ℤ◌, Some, None, Option, unwrap_or, refl, arith}
use Rattle.std.specs.Int.{int_max, int_min}
use Rattle.std.proofs.lemmas.Int.{ints, clamps}
use Rattle.tariff.specs.Blocks.{block_of}
use Rattle.tariff.specs.Prices.{initial_terms, total_price}
use Rattle.tariff.specs.Rounding.{nearest}
use Rattle.tariff.specs.Tables.{Tables, Limited, Priced}
use Rattle.tariff.specs.declared.blocks.Block.{Block}
use Rattle.tariff.specs.declared.prices.Terms.{Terms}
use Rattle.tally.proofs.EnergySize.{energy_size}
use Rattle.tally.specs.DayPrices.{DayPrices, needed_prices, day_ahead_at, is_held_in, is_priced, prices_of}
use Rattle.tally.specs.Numbered.{positive_part}
use Rattle.tally.specs.States.{State}
use Rattle.tally.proofs.Sizes.{positive_size}

-- a price that is missing or not needed stands at 0
needed_size : (is_needed : Bool) (place : Option ℤ) → Priced place → nat_abs (cond is_needed (unwrap_or place (pos 0)) (pos 0)) ≤ 1000000
needed_size true (Some price) h = h price refl
needed_size true None h = omega arith
needed_size false place h = omega arith

pub record SmallPrices (prices : DayPrices) : Type 0 where
  pub day_ahead : (block : Block) → nat_abs (prices.day_ahead block) ≤ 1000000
  pub real_time : (hour : ℕ) → nat_abs (prices.real_time hour) ≤ 1000000

pub needed_small : (state : State) (tables : Tables) → Limited tables → SmallPrices (needed_prices state tables)
needed_small state tables limited = record {
  day_ahead =
      λ block. needed_size (is_held_in state block) (tables.day_ahead state.day.number block) (limited.day_ahead state.day.number block);
  real_time = λ hour. needed_size (is_priced state hour) (tables.real_time state.day.number hour) (limited.real_time state.day.number hour);
}

-- a total price lies from 0 to the cap
total_price_size : (terms : Terms) (day_ahead : ℤ) (factor : ℕ)
    → (pos 0 ≤ℤ total_price terms day_ahead factor) × (total_price terms day_ahead factor ≤ℤ pos terms.cap)
total_price_size terms day_ahead factor = clamped (nearest (pos (factor * terms.adder) *ℤ day_ahead) (pos 1000000)) terms.cap
  where
    clamped : (z : ℤ) (cap : ℕ) → (pos 0 ≤ℤ int_max (pos 0) (int_min z (pos cap))) × (int_max (pos 0) (int_min z (pos cap)) ≤ℤ pos cap)
    clamped z cap = (omega (arith, ints, clamps), omega (arith, ints, clamps))

-- what the energy price leaves of it
left_size : (whole part : ℤ) → (pos 0 ≤ℤ whole) × (whole ≤ℤ pos 200000) → nat_abs part ≤ 1000000
    → (nat_abs (whole -ℤ part) ≤ 1200000) × (pos 0 ≤ℤ (whole -ℤ part +ℤ pos 1000000))
left_size whole part (low, high) h = (omega (arith, ints), omega (arith, ints))

part_of_max_size : (x y : ℤ) → nat_abs x ≤ 1000000 → nat_abs y ≤ 1000000 → positive_part (int_max x y) ≤ 1000000
part_of_max_size x y h k = let a : nat_abs (int_max x y) ≤ 1000000 =
    omega (arith, ints, clamps) in omega (arith, positive_size (int_max x y))

module _ (state : State) (prices : DayPrices) (small : SmallPrices prices) (hour : ℕ) where
  pub energy_price_size : nat_abs (prices_of state prices hour).energy ≤ 1000000
  unfolding prices_of
  energy_price_size =
      energy_size initial_terms (total_price initial_terms (day_ahead_at state prices hour) (prices.factor hour)) (prices.real_time hour)
      (total_price_size initial_terms (day_ahead_at state prices hour) (prices.factor hour)).0 (small.real_time hour)

  holdback_price_sizes : (nat_abs (prices_of state prices hour).holdback ≤ 1200000)
      × (pos 0 ≤ℤ ((prices_of state prices hour).holdback +ℤ pos 1000000))
  unfolding prices_of
  holdback_price_sizes =
      left_size (prices_of state prices hour).total (prices_of state prices hour).energy
      (total_price_size initial_terms (day_ahead_at state prices hour) (prices.factor hour)) energy_price_size

  pub holdback_price_size : nat_abs (prices_of state prices hour).holdback ≤ 1200000
  holdback_price_size = holdback_price_sizes.0

  pub holdback_price_low : pos 0 ≤ℤ ((prices_of state prices hour).holdback +ℤ pos 1000000)
  holdback_price_low = holdback_price_sizes.1

  -- what a missed MWh is charged by, before the factor
  pub charged_price_size : positive_part (int_max (day_ahead_at state prices hour) (prices.real_time hour)) ≤ 1000000
  charged_price_size =
      part_of_max_size (day_ahead_at state prices hour) (prices.real_time hour) (small.day_ahead (block_of state.day.kind hour))
      (small.real_time hour)
