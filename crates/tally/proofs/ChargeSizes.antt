-- The sizes of delivery charges: of one, and of a seller's in a day. Assumes nothing.
use Rattle.std.proofs.Common.{ℕ, zero, suc, ◌*◌, ◌<◌, ◌≤◌, Bool, true, false, cond, ℤ, pos, nat_abs, mul-le-mul_right, arith}
use Rattle.std.proofs.lemmas.Bool.Decides.{nat_tests}
use Rattle.std.specs.Int.{int_max}
use Rattle.tariff.specs.Charges.{delivery_factor}
use Rattle.tariff.specs.declared.blocks.Block.{Block}
use Rattle.tariff.specs.declared.charges.Cover.{Cover}
use Rattle.tariff.specs.declared.charges.Cover.TheVariants.{Covered, Uncovered}
use Rattle.tally.proofs.Products.{product_le}
use Rattle.tally.specs.Charges.{charge, cut_charge, failure_days}
use Rattle.tally.specs.DayPrices.{DayPrices, in_block, day_ahead_at}
use Rattle.tally.specs.Numbered.{total, total_z, positive_part}
use Rattle.tally.specs.States.{State, hour_at}
use Rattle.tally.proofs.MakeWholeSize.{total_times}
use Rattle.tally.proofs.Numbering.{add_size, total_more, total_le, total_z_none, total_z_more, total_z_bound, total_z_swap}
use Rattle.tally.proofs.PriceSizes.{SmallPrices, charged_price_size}
use Rattle.tally.proofs.Sizes.{missed_size, misses_size}
use Rattle.tally.proofs.Sound.{Sound}

-- a sum is no larger than what bounds its figures comes to
pub total_z_size : (f : ℕ → ℤ) (g : ℕ → ℕ) (n : ℕ) → ((k : ℕ) → 0 < k → k ≤ n → nat_abs (f k) ≤ g k) → nat_abs (total_z f n) ≤ total g n
total_z_size f g zero h = rw total_z_none (omega arith)
total_z_size f g (suc n) h =
    let a = total_z_size f g n (λ k l m. h k l (omega arith)) in
    let b = h (suc n) (omega arith) (omega arith) in
    rw (total_z_more f n, total_more g n) (add_size (total_z f n) (f (suc n)) (total g n) (g (suc n)) a b)

factor_size : (day : ℕ) (cover : Cover) → delivery_factor day cover ≤ 50
factor_size day Covered = grind (arith, nat_tests)
factor_size day Uncovered = grind (arith, nat_tests)

cut_size : (is_in : Bool) (part cut whole : ℕ) → part ≤ cut → cut ≤ whole → nat_abs (cond is_in (pos part) (pos 0)) ≤ whole
cut_size true part cut whole p q = omega arith
cut_size false part cut whole p q = omega arith

module _ (state : State) (sound : Sound state) (prices : DayPrices) (small : SmallPrices prices) where
  rate_size : (hour day : ℕ) (cover : Cover)
      → delivery_factor day cover * positive_part (int_max (day_ahead_at state prices hour) (prices.real_time hour)) ≤ 50000000
  rate_size hour day cover =
      product_le (delivery_factor day cover)
      (positive_part (int_max (day_ahead_at state prices hour) (prices.real_time hour))) 50 1000000 50000000
      (factor_size day cover) (charged_price_size state prices small hour) (omega arith)

  charge_le : (seller hour buyer : ℕ) → charge state prices seller hour buyer ≤ (hour_at state hour).missed seller buyer * 50000000
  unfolding charge
  charge_le seller hour buyer =
      let rate = rate_size hour (failure_days state seller) ((hour_at state hour).cover seller buyer) in
      omega (arith, mul-le-mul_right ((hour_at state hour).missed seller buyer) rate)

  -- with one buyer in an hour, and with all of them together
  pub charge_size : (seller hour buyer : ℕ) → charge state prices seller hour buyer ≤ 500000000000
  charge_size seller hour buyer =
      omega (arith, charge_le seller hour buyer, missed_size state.set_up.parties (hour_at state hour) (sound.hours hour) seller buyer)

  pub hour_charges_size : (seller hour n : ℕ) → total (charge state prices seller hour) n ≤ 500000000000
  hour_charges_size seller hour n =
      let missed = (hour_at state hour).missed seller in
      omega (
        arith,
        total_le (charge state prices seller hour) (λ b. missed b * 50000000) n (λ b _ _. charge_le seller hour b),
        total_times missed 50000000 n,
        misses_size state.set_up.parties (hour_at state hour) (sound.hours hour) seller n,
      )

  -- what goes to the pool, or to the buyer, of the charges in a block
  module _ (part : Cover → ℕ → ℕ) (is_part : (cover : Cover) (cents : ℕ) → part cover cents ≤ cents) (block : Block) (seller : ℕ) where
    -- by buyer and hour
    abbrev entry : (buyer hour : ℕ) → ℤ
    entry buyer hour = cond (in_block state block hour)
        (pos (part ((hour_at state hour).cover seller buyer) (cut_charge state prices seller hour buyer))) (pos 0)

    -- a part of what is left of a charge is at most the charge
    entry_le : (buyer hour : ℕ) → nat_abs (entry buyer hour) ≤ charge state prices seller hour buyer
    unfolding cut_charge
    entry_le buyer hour =
        cut_size (in_block state block hour) _ (cut_charge state prices seller hour buyer) _
        (is_part ((hour_at state hour).cover seller buyer) (cut_charge state prices seller hour buyer)) (omega arith)

    pub part_size : (buyer : ℕ) → nat_abs (total_z (entry buyer) 24) ≤ 12000000000000
    part_size buyer =
        total_z_bound (entry buyer) 500000000000 24 (λ hour _ _. omega (arith, entry_le buyer hour, charge_size seller hour buyer))

    pub parts_size : (n : ℕ) → nat_abs (total_z (λ buyer. total_z (entry buyer) 24) n) ≤ 12000000000000
    parts_size n =
        rw (total_z_swap entry n 24)
        (total_z_bound (λ hour. total_z (λ buyer. entry buyer hour) n) 500000000000 24
        (λ hour _ _. omega (
          arith,
          hour_charges_size seller hour n,
          total_z_size (λ buyer. entry buyer hour) (charge state prices seller hour) n (λ buyer _ _. entry_le buyer hour),
        )))
