-- The prices of a priced day: they are the tally's, and small. Assumes nothing.
use Rattle.std.proofs.Common.{◌≡◌, ℕ, zero, suc, ◌≤◌, nat_abs, ap, arith}
use Rattle.tariff.specs.declared.blocks.Block.{Block}
use Rattle.tariff.specs.declared.blocks.Block.TheVariants.{Heavy, Light}
use Rattle.tally.specs.DayPrices.{prices_of}
use Rattle.tally.specs.States.{State}
use Rattle.tally.proofs.PriceSizes.{SmallPrices}
use Rattle.book.specs.HourPricing.{priced_at}
use Rattle.book.specs.PricedDays.{prices_in}
use Rattle.book.specs.declared.priced_day.PricedDay.{PricedDay}

module _ (day : PricedDay) where
  small_day_ahead : (block : Block) → nat_abs ((prices_in day).day_ahead block) ≤ 1000000
  small_day_ahead Heavy = day.heavy_small
  small_day_ahead Light = day.light_small

  small_real_time : (hour : ℕ) → nat_abs ((prices_in day).real_time hour) ≤ 1000000
  small_real_time zero = omega arith
  small_real_time (suc place) = day.real_time_small place

  pub small_prices : SmallPrices (prices_in day)
  small_prices = record { day_ahead = small_day_ahead; real_time = small_real_time }

  -- what an hour is settled by
  pub priced_is : (state : State) → day.kind ≡ state.day.kind → (hour : ℕ)
      → priced_at day.kind day.heavy day.light day.real_time day.factors hour ≡ prices_of state (prices_in day) hour
  unfolding priced_at prices_of
  priced_is state e hour = ap (λ kind. priced_at kind day.heavy day.light day.real_time day.factors hour) e
