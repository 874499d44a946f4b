-- The prices by which a day is settled, and which of them a close needs. Assumes nothing.
use Rattle.std.specs.Prelude.{ℕ, Bool, if◌then◌else◌, not, ◌&&◌, ◌||◌, ℤ, pos, Option, is_some, nat_lt}
use Rattle.std.specs.Option.{unwrap_or}
use Rattle.tariff.specs.Answers.{Answer, require, ◌then◌}
use Rattle.tariff.specs.Blocks.{block_of, same_block, hours_of_day, is_hour}
use Rattle.tariff.specs.Prices.{hour_prices, initial_terms}
use Rattle.tariff.specs.Tables.{Tables}
use Rattle.tariff.specs.declared.blocks.Block.{Block}
use Rattle.tariff.specs.declared.prices.HourPrices.{HourPrices}
use Rattle.tariff.specs.declared.refusal.Quote.TheVariants.{DayAhead, RealTime, Factor}
use Rattle.tariff.specs.declared.refusal.Refusal.TheVariants.{MissingPrice}
use Rattle.tally.specs.Numbered.{total}
use Rattle.tally.specs.States.{State, hour_at}

-- the prices of a day; what is not needed stands at 0
pub record DayPrices : Type 0 where
  pub day_ahead : Block → ℤ
  pub real_time : ℕ → ℤ
  pub factor : ℕ → ℕ

-- a figure may be missing where it is not needed
abbrev pub there_if_needed : {A : Type 0} → Bool → Option A → Bool
there_if_needed needed quote = not needed || is_some quote

abbrev pub if_needed : {A : Type 0} → Bool → Option A → A → A
if_needed needed quote other = if needed then unwrap_or quote other else other

module _ (state : State) where
  -- the block to which an hour belongs, and whether it is the given one
  abbrev pub block_at : ℕ → Block
  block_at hour = block_of state.day.kind hour

  abbrev pub in_block : Block → ℕ → Bool
  in_block block hour = same_block (block_at hour) block

  -- MW held in an hour, by all sellers together
  abbrev pub held_at : ℕ → ℕ
  held_at hour = total (hour_at state hour).holdings state.set_up.parties

  abbrev pub is_held : ℕ → Bool
  is_held hour = nat_lt 0 (held_at hour)

  -- whether any MW is held in a block
  unfoldable pub is_held_in : Block → Bool
  is_held_in block = nat_lt 0 (total (λ hour. if in_block block hour then held_at hour else 0) hours_of_day)

  -- whether a number is an hour of the day in whose block any MW is held, so that its prices are needed
  abbrev pub is_priced : ℕ → Bool
  is_priced hour = is_hour hour && is_held_in (block_at hour)

  -- Where any MW is held in a block, its day-ahead price is needed, and every hour's real-time price; and the factor in
  -- each hour in which any is held.
  abbrev pub needed_quotes_answer : Tables → ℕ → Answer
  needed_quotes_answer tables hour =
      require (there_if_needed (is_priced hour) (tables.day_ahead state.day.number (block_at hour))) (MissingPrice hour DayAhead)
      then require (there_if_needed (is_priced hour) (tables.real_time state.day.number hour)) (MissingPrice hour RealTime)
      then require (there_if_needed (is_held hour) (tables.factor state.day.number hour)) (MissingPrice hour Factor)

  abbrev pub needed_prices : Tables → DayPrices
  needed_prices tables = record {
    day_ahead = λ block. if_needed (is_held_in block) (tables.day_ahead state.day.number block) (pos 0);
    real_time = λ hour. if_needed (is_priced hour) (tables.real_time state.day.number hour) (pos 0);
    factor = λ hour. if_needed (is_held hour) (tables.factor state.day.number hour) 0;
  }

  module _ (prices : DayPrices) where
    -- the day-ahead price in an hour, and the hour's settlement prices
    abbrev pub day_ahead_at : ℕ → ℤ
    day_ahead_at hour = prices.day_ahead (block_at hour)

    unfoldable pub prices_of : ℕ → HourPrices
    prices_of hour = hour_prices initial_terms (day_ahead_at hour) (prices.real_time hour) (prices.factor hour)
