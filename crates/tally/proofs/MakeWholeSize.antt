-- A make-whole is at most 960,000,000,000 cents. Assumes nothing.
use Rattle.std.proofs.Common.{◌≡◌, ℕ, zero, suc, ◌+◌, ◌*◌, ◌≤◌, Bool, true, false, cond, ltb, ℤ, pos, negsuc}
use Rattle.std.proofs.Common.{◌+ℤ◌, ◌-ℤ◌, ◌*ℤ◌, neg_ℤ, nat_abs, ◌≤ℤ◌, sym, add-mul, zero-mul, arith}
use Rattle.std.proofs.lemmas.Int.{ints}
use Rattle.tariff.specs.declared.blocks.Block.{Block}
use Rattle.tally.proofs.Products.{abs_mul, product_le}
use Rattle.tally.specs.DayPrices.{DayPrices, in_block, prices_of}
use Rattle.tally.specs.Numbered.{total, positive_part}
use Rattle.tally.specs.Pairs.{pair, delivered, declined}
use Rattle.tally.specs.Settlement.{largest_holding, holdback, energy, settlement, revenue}
use Rattle.tally.specs.Settlement.{declined_credit, idle_credit, credits, make_whole}
use Rattle.tally.specs.States.{State, hour_at}
use Rattle.tally.proofs.BlockHours.{total_z_low, block_size, block_low, block_greatest_bound}
use Rattle.tally.proofs.Numbering.{total_none, total_more, total_add, total_swap, total_bound, total_z_add, total_z_bound}
use Rattle.tally.proofs.PriceSizes.{SmallPrices, energy_price_size, holdback_price_low}
use Rattle.tally.proofs.Sizes.{holding_size, pairs_size, declines_size}
use Rattle.tally.proofs.Sound.{Sound}

-- MW times a price, from above and from below
pub product_size : (n most : ℕ) (price : ℤ) (high : ℕ) → n ≤ most → nat_abs price ≤ high → nat_abs (pos n *ℤ price) ≤ most * high
product_size n most price high h k = rw (abs_mul (pos n) price) (product_le n (nat_abs price) most high (most * high) h k (omega arith))

product_low : (n most : ℕ) (price : ℤ) (low : ℕ) → n ≤ most → pos 0 ≤ℤ (price +ℤ pos low) → pos 0 ≤ℤ (pos n *ℤ price +ℤ pos (most * low))
product_low n most (pos p) low h k = omega (arith, ints)
product_low n most (negsuc p) low h k =
    let m : n * suc p ≤ most * low = product_le n (suc p) most low (most * low) h (omega (arith, ints)) (omega arith) in
    neg_low (n * suc p) (most * low) m
  where
    neg_low : (a b : ℕ) → a ≤ b → pos 0 ≤ℤ (neg_ℤ (pos a) +ℤ pos b)
    neg_low a b h = omega (arith, ints)

pub total_times : (f : ℕ → ℕ) (m n : ℕ) → total (λ k. f k * m) n ≡ total f n * m
total_times f m zero = rw (total_none f, total_none (λ k. f k * m)) (sym (zero-mul m))
total_times f m (suc n) =
    rw (total_more f n, total_more (λ k. f k * m) n, total_times f m n) (sym (add-mul (total f n) (f (suc n)) m))

-- in one hour only one of the two credits counts
either_size : (is_in is_held : Bool) (x y : ℤ) (most : ℕ) → nat_abs x ≤ most → nat_abs y ≤ most
    → nat_abs (cond is_in (cond is_held x (pos 0)) (pos 0) +ℤ cond is_in (cond is_held (pos 0) y) (pos 0)) ≤ most
either_size true true x y most h k = omega (arith, ints)
either_size true false x y most h k = omega (arith, ints)
either_size false is_held x y most h k = omega (arith, ints)

-- what is lacking, where the revenue is small, and settlement and credits do not lie far below 0
lacking_size : (revenue settlement credits : ℤ) → nat_abs revenue ≤ 240000000000 → pos 0 ≤ℤ (settlement +ℤ pos 480000000000)
    → nat_abs credits ≤ 240000000000 → positive_part (revenue -ℤ settlement -ℤ credits) ≤ 960000000000
lacking_size revenue settlement credits a b c = part_below (revenue -ℤ settlement -ℤ credits) (omega (arith, ints))
  where
    part_below : (z : ℤ) → z ≤ℤ pos 960000000000 → positive_part z ≤ 960000000000
    part_below (pos n) h = omega (arith, ints)
    part_below (negsuc n) h = omega arith

both_low : (x y : ℤ) (n : ℕ) → pos 0 ≤ℤ (x +ℤ pos n) → pos 0 ≤ℤ (y +ℤ pos n) → pos 0 ≤ℤ (x +ℤ y +ℤ pos (n + n))
both_low x y n h k = omega (arith, ints)

module _ (state : State) (sound : Sound state) (block : Block) (seller : ℕ) where
  pub largest_holding_size : largest_holding state block seller ≤ 10000
  unfolding largest_holding
  largest_holding_size =
      block_greatest_bound state block (λ hour. (hour_at state hour).holdings seller) 10000
      (λ hour i. holding_size state.set_up.parties (hour_at state hour) (sound.hours hour) seller)

  -- what a price of -1,000,000 would take from the pairs with a buyer in a day, and with all buyers
  abbrev deepest : ℕ → ℕ
  deepest buyer = total (λ hour. pair (hour_at state hour) seller buyer * 1000000) 24

  deepest_size : total deepest state.set_up.parties ≤ 240000000000
  deepest_size =
      rw (total_swap (λ buyer hour. pair (hour_at state hour) seller buyer * 1000000) state.set_up.parties 24)
      (total_bound (λ hour. total (λ buyer. pair (hour_at state hour) seller buyer * 1000000) state.set_up.parties) 10000000000 24
      (λ hour _ _.
      let a = pairs_size state.set_up.parties (hour_at state hour) (sound.hours hour) seller state.set_up.parties in
      let b = total_times (pair (hour_at state hour) seller) 1000000 state.set_up.parties in
      omega arith))

  module _ (prices : DayPrices) (small : SmallPrices prices) where
    pub revenue_size : nat_abs (revenue state prices block seller) ≤ 240000000000
    unfolding revenue
    revenue_size =
        block_size state block (λ hour. pos (largest_holding state block seller) *ℤ prices.day_ahead block) 10000000000
        (λ hour i. product_size (largest_holding state block seller) 10000 (prices.day_ahead block) 1000000 largest_holding_size
        (small.day_ahead block))

    pub credits_size : nat_abs (credits state prices block seller) ≤ 240000000000
    unfolding declined_credit idle_credit
    credits_size =
        rw (sym (total_z_add declined_at idle_at 24))
        (total_z_bound (λ hour. declined_at hour +ℤ idle_at hour) 10000000000 24 (λ hour _ _.
        either_size (in_block state block hour) (ltb 0 ((hour_at state hour).holdings seller)) (declines hour) (idles hour) 10000000000
        (product_size (total (declined (hour_at state hour) seller) state.set_up.parties) 10000 (prices_of state prices hour).energy 1000000
        (declines_size state.set_up.parties (hour_at state hour) (sound.hours hour) seller state.set_up.parties)
        (energy_price_size state prices small hour))
        (product_size (largest_holding state block seller) 10000 (prices.real_time hour) 1000000 largest_holding_size
        (small.real_time hour))))
      where
        declines : ℕ → ℤ
        declines hour = pos (total (declined (hour_at state hour) seller) state.set_up.parties) *ℤ (prices_of state prices hour).energy

        idles : ℕ → ℤ
        idles hour = pos (largest_holding state block seller) *ℤ prices.real_time hour

        declined_at : ℕ → ℤ
        declined_at hour =
            cond (in_block state block hour) (cond (ltb 0 ((hour_at state hour).holdings seller)) (declines hour) (pos 0)) (pos 0)

        idle_at : ℕ → ℤ
        idle_at hour = cond (in_block state block hour) (cond (ltb 0 ((hour_at state hour).holdings seller)) (pos 0) (idles hour)) (pos 0)

    holdback_low : (buyer : ℕ) → pos 0 ≤ℤ (holdback state prices block seller buyer +ℤ pos (deepest buyer))
    unfolding holdback
    holdback_low buyer =
        block_low state block _ (λ hour. pair (hour_at state hour) seller buyer * 1000000)
        (λ hour i.
        product_low (pair (hour_at state hour) seller buyer) (pair (hour_at state hour) seller buyer)
        (prices_of state prices hour).holdback 1000000
        (omega arith) (holdback_price_low state prices small hour))

    energy_low : (buyer : ℕ) → pos 0 ≤ℤ (energy state prices block seller buyer +ℤ pos (deepest buyer))
    unfolding energy
    energy_low buyer =
        block_low state block _ (λ hour. pair (hour_at state hour) seller buyer * 1000000)
        (λ hour i.
        let h = energy_price_size state prices small hour in
        let d = (sound.hours hour).ordered.deployments seller buyer in
        product_low (delivered (hour_at state hour) seller buyer) (pair (hour_at state hour) seller buyer)
        (prices_of state prices hour).energy 1000000
        (omega arith) (omega (arith, ints)))

    settlement_low : pos 0 ≤ℤ (settlement state prices block seller +ℤ pos 480000000000)
    settlement_low =
        let low =
        total_z_low (λ buyer. holdback state prices block seller buyer +ℤ energy state prices block seller buyer)
        (λ buyer. deepest buyer + deepest buyer) state.set_up.parties
        (λ buyer _ _. both_low (holdback state prices block seller buyer) (energy state prices block seller buyer) (deepest buyer)
        (holdback_low buyer) (energy_low buyer)) in
        let twice = total_add deepest deepest state.set_up.parties in
        let most = deepest_size in
        omega (arith, ints)

    pub make_whole_size : make_whole state prices block seller ≤ 960000000000
    make_whole_size =
        lacking_size (revenue state prices block seller) (settlement state prices block seller) (credits state prices block seller)
        revenue_size settlement_low credits_size
