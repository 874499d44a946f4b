use Rattle.std.proofs.Common.{ℕ, ℤ, cond, pos, ◌*ℤ◌, rules, arith}
use Rattle.std.proofs.lemmas.Int.{ints}
use Rattle.tally.specs.DayPrices.{prices_of}
use Rattle.tally.specs.Settlement.{declined_credit, declined_at, holds_at}
use Rattle.book.specs.Books.{state_of}
use Rattle.book.specs.PricedDays.{prices_in}
use Rattle.book.proofs.Unallotted.{uncredited}
use Rattle.book.proofs.book.Book.declined_credit.Goals as goal

pub returns-clause-value : goal.returns-clause-value
unfolding declined_credit
returns-clause-value c =
    let a = c.args in
    let S = state_of a.self.now in
    let P = prices_in a.prices.now in
    let seller = a.seller in
    let figure : ℕ → ℤ =
    λ hour. cond (holds_at S seller hour) (pos (declined_at S seller hour) *ℤ (prices_of S P hour).energy) (pos 0) in
    let e = c.total.ensures.value figure (λ hour n post. search rules) in
    let all = c.requires.hours.sums figure (λ hour isnt. uncredited a.self.now hour isnt seller _) in
    omega (arith, ints, e, all)
