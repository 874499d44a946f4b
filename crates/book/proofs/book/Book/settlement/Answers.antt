use Rattle.std.proofs.Common.{◌+ℤ◌, sym, arith, add-one}
use Rattle.std.proofs.lemmas.Int.{ints}
use Rattle.tally.specs.Settlement.{holdback, energy}
use Rattle.tally.proofs.Numbering.{total_z_none, total_z_more}
use Rattle.book.specs.Books.{state_of}
use Rattle.book.specs.PricedDays.{prices_in}
use Rattle.book.proofs.book.Book.settlement.Goals as goal

pub loop-place-init : goal.loop-place-init
loop-place-init c = record { sum = sym (total_z_none _); size = omega (arith, ints) }

pub loop-place-preserved : goal.loop-place-preserved
loop-place-preserved c =
    let a = c.args in
    let S = state_of a.self.now in
    let P = prices_in a.prices.now in
    let seller = a.seller in
    let more =
    total_z_more (λ buyer. holdback S P a.hours.now.block seller buyer +ℤ energy S P a.hours.now.block seller buyer) c.loop-place.place in
    let held = rw c.at-buyer.ensures at c.holdback.ensures.value in
    let used = rw c.at-buyer.ensures at c.energy.ensures.value in
    record { sum = rw add-one (omega (arith, ints, held, used)); size = omega (arith, ints) }
