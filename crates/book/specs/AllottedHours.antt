-- Hours of a block over which to go in place of all, where a figure is 0 until the hour is allotted. Assumes nothing.
use Rattle.std.specs.Prelude.{◌≡◌, ℕ, suc, false, if◌then◌else◌, List, ℤ, pos}
use Rattle.tariff.specs.Blocks.{hours_of_day}
use Rattle.tariff.specs.declared.blocks.Block.{Block}
use Rattle.tally.specs.DayPrices.{in_block}
use Rattle.tally.specs.Numbered.{total_z, greatest}
use Rattle.tally.specs.States.{State, hour_at}
use Rattle.book.specs.Records.{at}
use Rattle.book.specs.declared.block_hours.BlockHours.{BlockHours}

-- over the first `count` of these places such figures come to what they come to in the block's hours up to that one
pub record ComesTo (state : State) (block : Block) (places : List ℕ) (count hours : ℕ) : Type 0 where
  pub sums : (f : ℕ → ℤ) → ((hour : ℕ) → (hour_at state hour).allotted ≡ false → f hour ≡ pos 0)
      → total_z (λ k. f (suc (at 0 places k))) count
      ≡ total_z (λ hour. if in_block state block hour then f hour else pos 0) hours
  pub most : (f : ℕ → ℕ) → ((hour : ℕ) → (hour_at state hour).allotted ≡ false → f hour ≡ 0)
      → greatest (λ k. f (suc (at 0 places k))) count
      ≡ greatest (λ hour. if in_block state block hour then f hour else 0) hours

-- in all of its hours
abbrev pub Suffice : State → BlockHours → Type 0
Suffice state hours = ComesTo state hours.block hours.places hours.count hours_of_day
