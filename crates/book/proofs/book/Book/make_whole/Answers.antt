use Rattle.std.proofs.Common.{◌≤◌, ℕ, ◌-ℤ◌, subst, sym, arith}
use Rattle.std.proofs.lemmas.Int.{ints, clamps}
use Rattle.tally.specs.Settlement.{revenue, settlement, credits}
use Rattle.tally.proofs.MakeWholeSize.{make_whole_size}
use Rattle.book.specs.Books.{state_of}
use Rattle.book.specs.PricedDays.{prices_in}
use Rattle.book.proofs.DayPriced.{small_prices}
use Rattle.book.proofs.Facts.{sound_of}
use Rattle.book.proofs.Lacking.{size_above_zero}
use Rattle.book.proofs.book.Book.make_whole.Goals as goal

pub returns-clause-value : goal.returns-clause-value
returns-clause-value c =
    let a = c.args in
    let S = state_of a.self.now in
    let P = prices_in a.prices.now in
    let seller = a.seller in
    let lacking = revenue S P a.hours.now.block seller -ℤ settlement S P a.hours.now.block seller -ℤ credits S P a.hours.now.block seller in
    omega (arith, ints, clamps, size_above_zero lacking)

pub returns-clause-size : goal.returns-clause-size
returns-clause-size c =
    let a = c.args in
    let Small : ℕ → Type 0 = λ n. n ≤ 960000000000 in
    subst Small (sym (returns-clause-value c))
    (make_whole_size (state_of a.self.now) (sound_of a.self.now) a.hours.now.block a.seller
    (prices_in a.prices.now) (small_prices a.prices.now))
