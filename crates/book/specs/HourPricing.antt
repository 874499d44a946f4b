-- The prices of a day by which it is settled, from lists with a place for each hour. Assumes nothing.
use Rattle.std.specs.Prelude.{ℕ, ℤ, pos, List}
use Rattle.tariff.specs.Blocks.{block_of}
use Rattle.tariff.specs.Prices.{hour_prices, initial_terms}
use Rattle.tariff.specs.declared.blocks.Block.{Block}
use Rattle.tariff.specs.declared.blocks.Block.TheVariants.{Heavy, Light}
use Rattle.tariff.specs.declared.blocks.DayKind.{DayKind}
use Rattle.tariff.specs.declared.prices.HourPrices.{HourPrices}
use Rattle.tally.specs.DayPrices.{DayPrices}
use Rattle.book.specs.Records.{at}

-- which of two figures is a block's
abbrev pub by_block : {A : Type 0} → (heavy light : A) → Block → A
by_block heavy light Heavy = heavy
by_block heavy light Light = light

-- the prices of all hours and blocks
abbrev pub day_prices : (heavy light : ℤ) → List ℤ → List ℕ → DayPrices
day_prices heavy light real_time factors =
    record { day_ahead = by_block heavy light; real_time = at (pos 0) real_time; factor = at 0 factors }

-- what an hour is settled by
unfoldable pub priced_at : DayKind → (heavy light : ℤ) → List ℤ → List ℕ → ℕ → HourPrices
priced_at kind heavy light real_time factors hour =
    hour_prices initial_terms (by_block heavy light (block_of kind hour)) (at (pos 0) real_time hour)
    (at 0 factors hour)
