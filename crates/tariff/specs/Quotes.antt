-- The settlement prices of an hour by the tables of a source. Assumes nothing.
use Rattle.std.specs.Prelude.{ℕ, pos, is_some}
use Rattle.std.specs.Option.{unwrap_or}
use Rattle.tariff.specs.Answers.{Answer, require, ◌then◌}
use Rattle.tariff.specs.Blocks.{block_answer, block_of}
use Rattle.tariff.specs.Prices.{hour_prices}
use Rattle.tariff.specs.Tables.{Tables}
use Rattle.tariff.specs.declared.blocks.DayKind.{DayKind}
use Rattle.tariff.specs.declared.prices.HourPrices.{HourPrices}
use Rattle.tariff.specs.declared.prices.Terms.{Terms}
use Rattle.tariff.specs.declared.refusal.Quote.TheVariants.{DayAhead, RealTime, Factor}
use Rattle.tariff.specs.declared.refusal.Refusal.TheVariants.{MissingPrice}

-- an hour is priced by a source that has the day-ahead price of its block, its real-time price and its factor
abbrev pub quote_answer : Tables → DayKind → ℕ → ℕ → Answer
quote_answer tables kind day hour =
    block_answer hour
    then require (is_some (tables.day_ahead day (block_of kind hour))) (MissingPrice hour DayAhead)
    then require (is_some (tables.real_time day hour)) (MissingPrice hour RealTime)
    then require (is_some (tables.factor day hour)) (MissingPrice hour Factor)

-- the prices where none is missing
abbrev pub quoted_prices : Terms → Tables → DayKind → ℕ → ℕ → HourPrices
quoted_prices terms tables kind day hour =
    hour_prices terms (unwrap_or (tables.day_ahead day (block_of kind hour)) (pos 0)) (unwrap_or (tables.real_time day hour) (pos 0))
    (unwrap_or (tables.factor day hour) 0)
