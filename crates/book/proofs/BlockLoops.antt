-- Loops over the hours of a block. Assumes nothing.
use Rattle.std.proofs.Common.{◌≡◌, ℕ, suc, ◌+◌, Bool, true, false, cond, ℤ, pos, ◌+ℤ◌, ap, ◌∙◌, add-one, arith}
use Rattle.std.proofs.lemmas.Int.{ints}
use Rattle.tariff.specs.declared.blocks.Block.{Block}
use Rattle.tally.specs.DayPrices.{in_block}
use Rattle.tally.specs.Numbered.{total_z}
use Rattle.tally.specs.Settlement.{block_total}
use Rattle.tally.specs.States.{State}
use Rattle.tally.proofs.Numbering.{total_z_more}

module _ (state : State) (block : Block) (f : ℕ → ℤ) where
  -- the figures of the block's hours
  abbrev pub of_block : ℕ → ℤ
  of_block hour = cond (in_block state block hour) (f hour) (pos 0)

  -- one more hour of the block, and one outside it
  pub hour_inside : (place : ℕ) (is_in : Bool) (total n : ℤ)
      → is_in ≡ in_block state block (suc place) → is_in ≡ true → n ≡ f (suc place)
      → total ≡ total_z of_block place → total +ℤ n ≡ total_z of_block (place + 1)
  hour_inside place is_in total n test is e h = rw (add-one, total_z_more, ← test, is, e, h)

  pub hour_outside : (place : ℕ) (is_in : Bool) (total : ℤ)
      → is_in ≡ in_block state block (suc place) → is_in ≡ false
      → total ≡ total_z of_block place → total ≡ total_z of_block (place + 1)
  hour_outside place is_in total test isnt h = rw (add-one, total_z_more, ← test, isnt, h) (omega (arith, ints))

  -- all hours of the day
  pub whole_block : (place : ℕ) (total : ℤ)
      → place ≡ 24 → total ≡ total_z of_block place → total ≡ block_total state block f
  whole_block place total e h = h ∙ ap (total_z of_block) e

-- the figures of the block's hours, for the greatest of them
module _ (state : State) (block : Block) (f : ℕ → ℕ) where
  abbrev pub figures_of : ℕ → ℕ
  figures_of hour = cond (in_block state block hour) (f hour) 0
