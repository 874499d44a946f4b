-- Settlement of a block: what buyers pay, block sale revenue, credits and make-whole. Assumes nothing.
use Rattle.std.specs.Prelude.{ℕ, Bool, if◌then◌else◌, ℤ, pos, ◌+ℤ◌, ◌-ℤ◌, ◌*ℤ◌, nat_lt}
use Rattle.tariff.specs.Blocks.{hours_of_day}
use Rattle.tariff.specs.declared.blocks.Block.{Block}
use Rattle.tally.specs.DayPrices.{DayPrices, in_block, prices_of}
use Rattle.tally.specs.Numbered.{total, total_z, greatest, positive_part}
use Rattle.tally.specs.Pairs.{pair, delivered, declined}
use Rattle.tally.specs.States.{State, hour_at}

module _ (state : State) where
  -- over the hours of a block: the sum, and the greatest
  abbrev pub block_total : Block → (ℕ → ℤ) → ℤ
  block_total block f = total_z (λ hour. if in_block state block hour then f hour else pos 0) hours_of_day

  abbrev pub block_greatest : Block → (ℕ → ℕ) → ℕ
  block_greatest block f = greatest (λ hour. if in_block state block hour then f hour else 0) hours_of_day

  -- what a seller holds in an hour, whether it holds any, and its largest hourly holding in a block
  abbrev pub holding_at : (seller hour : ℕ) → ℕ
  holding_at seller hour = (hour_at state hour).holdings seller

  abbrev pub holds_at : (seller hour : ℕ) → Bool
  holds_at seller hour = nat_lt 0 (holding_at seller hour)

  unfoldable pub largest_holding : Block → ℕ → ℕ
  largest_holding block seller = block_greatest block (holding_at seller)

  -- MWh that a seller's buyers decline in an hour
  abbrev pub declined_at : (seller hour : ℕ) → ℕ
  declined_at seller hour = total (declined (hour_at state hour) seller) state.set_up.parties

  module _ (prices : DayPrices) where
    -- the buyer pays holdback price × MW held and energy price × MWh delivered
    unfoldable pub holdback : Block → (seller buyer : ℕ) → ℤ
    holdback block seller buyer =
        block_total block (λ hour. pos (pair (hour_at state hour) seller buyer) *ℤ (prices_of state prices hour).holdback)

    unfoldable pub energy : Block → (seller buyer : ℕ) → ℤ
    energy block seller buyer =
        block_total block (λ hour. pos (delivered (hour_at state hour) seller buyer) *ℤ (prices_of state prices hour).energy)

    -- a seller's settlement is what its buyers pay so, holdback and energy
    abbrev pub settlement : Block → ℕ → ℤ
    settlement block seller = total_z (λ buyer. holdback block seller buyer +ℤ energy block seller buyer) state.set_up.parties

    -- block sale revenue: the largest holding at the day-ahead price in every hour of the block
    unfoldable pub revenue : Block → ℕ → ℤ
    revenue block seller = block_total block (λ hour. pos (largest_holding block seller) *ℤ prices.day_ahead block)

    -- declined MWh at the energy price, in hours where the seller holds
    unfoldable pub declined_credit : Block → ℕ → ℤ
    declined_credit block seller =
        block_total block (λ hour.
        if holds_at seller hour then pos (declined_at seller hour) *ℤ (prices_of state prices hour).energy else pos 0)

    -- the largest holding at the real-time price, in hours where it holds nothing
    unfoldable pub idle_credit : Block → ℕ → ℤ
    idle_credit block seller =
        block_total block (λ hour.
        if holds_at seller hour then pos 0 else pos (largest_holding block seller) *ℤ prices.real_time hour)

    abbrev pub credits : Block → ℕ → ℤ
    credits block seller = declined_credit block seller +ℤ idle_credit block seller

    -- make-whole: what settlement and credits lack of the revenue, and 0 where they lack nothing
    abbrev pub make_whole : Block → ℕ → ℕ
    make_whole block seller = positive_part (revenue block seller -ℤ settlement block seller -ℤ credits block seller)
