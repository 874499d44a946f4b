use Rattle.std.proofs.Common.{◌<◌, ◌≤◌, suc, length, nat_abs, sym, ◌∙◌, subst, rules}
use Rattle.std.proofs.lemmas.List.{get_or_default}
use Rattle.tally.proofs.PriceSizes.{energy_price_size, holdback_price_size}
use Rattle.tariff.specs.declared.prices.HourPrices.{HourPrices}
use Rattle.book.specs.Books.{state_of}
use Rattle.book.specs.PricedDays.{prices_in}
use Rattle.book.proofs.DayPriced.{priced_is, small_prices}
use Rattle.book.proofs.book.Book.hour_prices.Goals as goal

pub returns-clause-value : goal.returns-clause-value
returns-clause-value c =
    let a = c.args in
    let p = c.place.result in
    let l : p < length a.prices.now.hours = search rules in
    rw (← c.place.ensures.value) (get_or_default a.prices.now.hours p _ _ l
    ∙ a.prices.now.priced p c.place.ensures.within
    ∙ priced_is a.prices.now (state_of a.self.now) c.requires (suc p))

pub returns-clause-energy_size : goal.returns-clause-energy_size
returns-clause-energy_size c =
    let a = c.args in
    let Small : HourPrices → Type 0 = λ h. nat_abs h.energy ≤ 1000000 in
    subst Small (sym (returns-clause-value c))
    (energy_price_size (state_of a.self.now) (prices_in a.prices.now) (small_prices a.prices.now) a.hour)

pub returns-clause-holdback_size : goal.returns-clause-holdback_size
returns-clause-holdback_size c =
    let a = c.args in
    let Small : HourPrices → Type 0 = λ h. nat_abs h.holdback ≤ 1200000 in
    subst Small (sym (returns-clause-value c))
    (holdback_price_size (state_of a.self.now) (prices_in a.prices.now) (small_prices a.prices.now) a.hour)
