use Rattle.std.proofs.Common.{◌≡◌, ℕ, ℤ, Option, Ok, Err, Result, ap, ◌∙◌, arith}
use Rattle.std.specs.Prelude.{refl}
use Rattle.tariff.specs.Answers.{granted, Gives}
use Rattle.tariff.specs.Prices.{initial_terms}
use Rattle.tariff.specs.Quotes.{quote_answer, quoted_prices}
use Rattle.sheets.specs.Sheets.{Sheet, filled}
use Rattle.tariff.specs.declared.blocks.DayKind.TheVariants.{Workday}
use Rattle.tariff.specs.declared.prices.HourPrices.{HourPrices}
use Rattle.tariff.specs.declared.prices.Terms.{Terms}
use Rattle.tariff.specs.declared.refusal.Refusal.{Refusal}
use Rattle.examples.proofs.priced.Goals as goal

-- a granted call gives its value
given : (x : HourPrices) (r : Result HourPrices Refusal) → Gives granted x r → r ≡ Ok x
given x (Ok y) g = ap Ok g.1
given x (Err e) g = let f = g.0 in let z : ◌≡◌ {A = ℕ} 0 1 = cc in absurd (omega arith)

-- what hour 8 of a workday is priced at by a sheet that two entries filled, whatever they are
hour_eight : (before after day : Sheet) (first last : ℕ) (price : Option ℤ) (factor : Option ℕ)
    (terms : Terms) (x : HourPrices) (r : Result HourPrices Refusal)
    → before ≡ day
    → after ≡ filled first last price factor before
    → terms ≡ initial_terms
    → Gives (quote_answer after.tables Workday 1 8) (quoted_prices terms after.tables Workday 1 8) r
    → quote_answer (filled first last price factor day).tables Workday 1 8 ≡ granted
    → quoted_prices initial_terms (filled first last price factor day).tables Workday 1 8 ≡ x
    → r ≡ Ok x
hour_eight before after day first last price factor terms x r d h t gives a p =
    let e : after ≡ filled first last price factor day = h ∙ ap (filled first last price factor) d in
    given x r (rw (a, p) at (rw (e, t) at gives))

pub returns : goal.returns
returns c =
    hour_eight _ _ _ _ _ _ _ _ _ _
    c.in_ok-enter_day.ensures.sheet
    c.in_ok-enter_hours.ensures.sheet
    c.initial.ensures
    c.price_hour.ensures
    refl refl
