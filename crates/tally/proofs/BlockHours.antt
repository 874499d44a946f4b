-- Sums over the hours of a block, and the greatest of their figures. Assumes nothing.
use Rattle.std.proofs.Common.{◌≡◌, ℕ, zero, suc, ◌+◌, ◌*◌, ◌<◌, ◌≤◌, true, cond, ℤ, pos, ◌+ℤ◌, nat_abs, ◌≤ℤ◌, refl, arith}
use Rattle.std.proofs.lemmas.Int.{ints}
use Rattle.std.proofs.lemmas.Bool.{cond-true, cond_both}
use Rattle.tariff.specs.declared.blocks.Block.{Block}
use Rattle.tally.specs.DayPrices.{in_block}
use Rattle.tally.specs.Numbered.{total, total_z}
use Rattle.tally.specs.Settlement.{block_total, block_greatest}
use Rattle.tally.specs.States.{State}
use Rattle.tally.proofs.Numbering.{total_none, total_more, total_z_none, total_z_more}
use Rattle.tally.proofs.Numbering.{total_z_zero, total_z_bound, greatest_bound, le_greatest}

-- a sum falls below 0 by no more than its figures do
pub total_z_low : (f : ℕ → ℤ) (g : ℕ → ℕ) (n : ℕ) → ((k : ℕ) → 0 < k → k ≤ n → pos 0 ≤ℤ (f k +ℤ pos (g k)))
    → pos 0 ≤ℤ (total_z f n +ℤ pos (total g n))
total_z_low f g zero h = rw (total_z_none f, total_none g) (omega (arith, ints))
total_z_low f g (suc n) h =
    let a = total_z_low f g n (λ k l m. h k l (omega arith)) in
    let b = h (suc n) (omega arith) (omega arith) in
    rw (total_z_more f n, total_more g n) (both_low (total_z f n) (f (suc n)) (total g n) (g (suc n)) a b)
  where
    both_low : (x y : ℤ) (a b : ℕ) → pos 0 ≤ℤ (x +ℤ pos a) → pos 0 ≤ℤ (y +ℤ pos b) → pos 0 ≤ℤ (x +ℤ y +ℤ pos (a + b))
    both_low x y a b p q = omega (arith, ints)

-- an hour of the day that belongs to a block
pub record IsHourIn (state : State) (block : Block) (hour : ℕ) : Type 0 where
  pub first : 0 < hour
  pub last : hour ≤ 24
  pub inside : in_block state block hour ≡ true

module _ (state : State) (block : Block) where
  -- what holds of the block's figures, and of z, holds of the figures with z in the hours outside
  inside_or_out : {A : Type 0} (f : ℕ → A) (z : A) (P : ℕ → A → Type 0) → ((hour : ℕ) → IsHourIn state block hour → P hour (f hour))
      → ((hour : ℕ) → P hour z) → (hour : ℕ) → 0 < hour → hour ≤ 24 → P hour (cond (in_block state block hour) (f hour) z)
  inside_or_out f z P h out hour l m =
      cond_both (in_block state block hour) (f hour) z (P hour) (λ e. h hour (record { first = l; last = m; inside = e })) (λ e. out hour)

  pub block_zero : (f : ℕ → ℤ) → ((hour : ℕ) → IsHourIn state block hour → f hour ≡ pos 0) → block_total state block f ≡ pos 0
  block_zero f h =
      total_z_zero (λ hour. cond (in_block state block hour) (f hour) (pos 0)) 24
      (inside_or_out f (pos 0) (λ hour z. z ≡ pos 0) h (λ hour. refl))

  pub block_size : (f : ℕ → ℤ) (most : ℕ) → ((hour : ℕ) → IsHourIn state block hour → nat_abs (f hour) ≤ most)
      → nat_abs (block_total state block f) ≤ 24 * most
  block_size f most h =
      total_z_bound (λ hour. cond (in_block state block hour) (f hour) (pos 0)) most 24
      (inside_or_out f (pos 0) (λ hour z. nat_abs z ≤ most) h (λ hour. omega arith))

  pub block_low : (f : ℕ → ℤ) (g : ℕ → ℕ) → ((hour : ℕ) → IsHourIn state block hour → pos 0 ≤ℤ (f hour +ℤ pos (g hour)))
      → pos 0 ≤ℤ (block_total state block f +ℤ pos (total g 24))
  block_low f g h =
      total_z_low (λ hour. cond (in_block state block hour) (f hour) (pos 0)) g 24
      (inside_or_out f (pos 0) (λ hour z. pos 0 ≤ℤ (z +ℤ pos (g hour))) h (λ hour. omega (arith, ints)))

  pub block_greatest_bound : (f : ℕ → ℕ) (most : ℕ) → ((hour : ℕ) → IsHourIn state block hour → f hour ≤ most)
      → block_greatest state block f ≤ most
  block_greatest_bound f most h =
      greatest_bound (λ hour. cond (in_block state block hour) (f hour) 0) most 24
      (inside_or_out f 0 (λ hour n. n ≤ most) h (λ hour. omega arith))

  pub le_block_greatest : (f : ℕ → ℕ) (hour : ℕ) → IsHourIn state block hour → f hour ≤ block_greatest state block f
  le_block_greatest f hour i =
      let g : ℕ → ℕ = λ hour. cond (in_block state block hour) (f hour) 0 in
      omega (arith, cond-true (in_block state block hour) (f hour) 0 i.inside, le_greatest g hour 24 i.first i.last)
