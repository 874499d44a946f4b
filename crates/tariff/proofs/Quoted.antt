-- An hour that a source prices. Assumes nothing.
use Rattle.std.proofs.Common.{◌≡◌, ℕ, ℤ, Some, Result, sym, ap, ◌∙◌, arith}
use Rattle.std.proofs.lemmas.Bool.Decides.{nat_tests}
use Rattle.tariff.specs.Answers.{granted, Gives}
use Rattle.tariff.specs.Blocks.{block_answer, block_of}
use Rattle.tariff.specs.Prices.{prices_answer, hour_prices}
use Rattle.tariff.specs.Quotes.{quote_answer, quoted_prices}
use Rattle.tariff.specs.Tables.{Tables, Limited}
use Rattle.tariff.specs.declared.blocks.Block.{Block}
use Rattle.tariff.specs.declared.blocks.DayKind.{DayKind}
use Rattle.tariff.specs.declared.prices.HourPrices.{HourPrices}
use Rattle.tariff.specs.declared.prices.Terms.{Terms}
use Rattle.tariff.specs.declared.refusal.Refusal.{Refusal}

module _ (terms : Terms) (tables : Tables) (kind : DayKind) (day hour : ℕ) (block : Block) (day_ahead real_time : ℤ) (factor : ℕ)
    (limited : Limited tables) (named : granted ≡ block_answer hour) (same : block ≡ block_of kind hour)
    (first : Some day_ahead ≡ tables.day_ahead day block) (second : Some real_time ≡ tables.real_time day hour)
    (third : Some factor ≡ tables.factor day hour) where
  -- none of the figures is missing
  found : tables.day_ahead day (block_of kind hour) ≡ Some day_ahead
  found = ap (tables.day_ahead day) (sym same) ∙ sym first

  -- the figures of a source lie within their limits, so that the hour is priced
  priced : prices_answer day_ahead real_time factor ≡ granted
  priced =
      let a = limited.day_ahead day block day_ahead (sym first) in
      let b = limited.real_time day hour real_time (sym second) in
      let c = limited.factor day hour factor (sym third) in
      grind (arith, nat_tests)

  answered : quote_answer tables kind day hour ≡ granted
  answered = rw (sym named, found, sym second, sym third)

  value : quoted_prices terms tables kind day hour ≡ hour_prices terms day_ahead real_time factor
  value = rw (found, sym second, sym third)

  pub quoted : (r : Result HourPrices Refusal)
      → Gives (prices_answer day_ahead real_time factor) (hour_prices terms day_ahead real_time factor) r
      → Gives (quote_answer tables kind day hour) (quoted_prices terms tables kind day hour) r
  quoted r gives = rw (answered, value) (rw priced at gives)
