use Rattle.std.proofs.Common.{◌≡◌, sym, cond, pos, ◌*ℤ◌, rules, arith}
use Rattle.std.proofs.lemmas.Int.{ints}
use Rattle.tally.specs.Settlement.{idle_credit, largest_holding, holds_at}
use Rattle.tally.proofs.BlockHours.{block_zero}
use Rattle.book.specs.Books.{state_of}
use Rattle.book.specs.PricedDays.{prices_in}
use Rattle.book.proofs.Unallotted.{either_nothing, nothing_costs}
use Rattle.book.proofs.book.Book.idle_credit.Goals as goal

pub returns-clause-value : goal.returns-clause-value
unfolding idle_credit
returns-clause-value c =
    let a = c.args in
    let S = state_of a.self.now in
    let P = prices_in a.prices.now in
    let seller = a.seller in
    let e = c.block_total.ensures.value
    (λ hour. cond (holds_at S seller hour) (pos 0) (pos (largest_holding S a.hours.now.block seller) *ℤ P.real_time hour))
    (λ hour n post. search rules) in
    omega (arith, ints, e)

pub returns-then-largest-eq0-clause-value : goal.returns-then-largest-eq0-clause-value
unfolding idle_credit
returns-then-largest-eq0-clause-value c =
    let a = c.args in
    let S = state_of a.self.now in
    let seller = a.seller in
    let largest = largest_holding S a.hours.now.block seller in
    let none : largest ≡ 0 = omega (arith, c.largest_holding-largest.ensures) in
    sym (block_zero S a.hours.now.block
    (λ hour. cond (holds_at S seller hour) (pos 0) (pos largest *ℤ (prices_in a.prices.now).real_time hour))
    (λ hour i. either_nothing (holds_at S seller hour) _ (nothing_costs _ _ none)))
