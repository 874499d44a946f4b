use Rattle.std.proofs.Common.{◌≡◌, sym, pos, ◌*ℤ◌, rules, arith}
use Rattle.std.proofs.lemmas.Int.{ints}
use Rattle.tally.specs.Settlement.{revenue, largest_holding}
use Rattle.tally.proofs.BlockHours.{block_zero}
use Rattle.book.specs.Books.{state_of}
use Rattle.book.specs.PricedDays.{prices_in}
use Rattle.book.proofs.Unallotted.{nothing_costs}
use Rattle.book.proofs.book.Book.revenue.Goals as goal

pub returns-clause-value : goal.returns-clause-value
unfolding revenue
returns-clause-value c =
    let a = c.args in
    let largest = largest_holding (state_of a.self.now) a.hours.now.block a.seller in
    let e = c.block_total.ensures.value
    (λ hour. pos largest *ℤ (prices_in a.prices.now).day_ahead a.hours.now.block)
    (λ hour n post. search rules) in
    omega (arith, ints, e)

pub returns-then-holding-eq0-clause-value : goal.returns-then-holding-eq0-clause-value
unfolding revenue
returns-then-holding-eq0-clause-value c =
    let a = c.args in
    let S = state_of a.self.now in
    let none : largest_holding S a.hours.now.block a.seller ≡ 0 = omega (arith, c.largest_holding-holding.ensures) in
    sym (block_zero S a.hours.now.block
    (λ hour. pos (largest_holding S a.hours.now.block a.seller) *ℤ (prices_in a.prices.now).day_ahead a.hours.now.block)
    (λ hour i. nothing_costs _ _ none))
