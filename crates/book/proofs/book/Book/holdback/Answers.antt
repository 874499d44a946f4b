use Rattle.std.proofs.Common.{ℕ, rules, ℤ, pos, ◌*ℤ◌, arith}
use Rattle.std.proofs.lemmas.Int.{ints}
use Rattle.tally.specs.DayPrices.{DayPrices, prices_of}
use Rattle.tally.specs.Pairs.{pair}
use Rattle.tally.specs.Settlement.{holdback}
use Rattle.tally.specs.States.{State, hour_at}
use Rattle.book.specs.Books.{state_of}
use Rattle.book.specs.PricedDays.{prices_in}
use Rattle.book.proofs.Unallotted.{nothing_costs, unheld_pair}
use Rattle.book.proofs.book.Book.holdback.Goals as goal

pub returns-clause-value : goal.returns-clause-value
unfolding holdback
returns-clause-value c =
    let a = c.args in
    let seller = a.seller in
    let buyer = a.buyer in
    let S : State = state_of a.self.now in
    let P : DayPrices = prices_in a.prices.now in
    let figure : ℕ → ℤ = λ hour. pos (pair (hour_at S hour) seller buyer) *ℤ (prices_of S P hour).holdback in
    let e = c.total.ensures.value figure (λ hour n post. search rules) in
    let all = c.requires.hours.sums figure (λ hour isnt. nothing_costs _ _ (unheld_pair a.self.now hour isnt seller buyer)) in
    omega (arith, ints, e, all)
