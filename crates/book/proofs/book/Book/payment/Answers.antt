use Rattle.std.proofs.Common.{◌≡◌, ◌∙◌, pos, rules, to_z, of_z, w64}
use Rattle.book.specs.PricedDays.{prices_in}
use Rattle.book.proofs.book.Book.payment.Goals as goal

pub returns : goal.returns
returns c =
    let prices = prices_in c.args.prices.now in
    let holdback : to_z w64 (of_z w64 c.holdback.result) ≡ c.holdback.result = search rules in
    let energy : to_z w64 (of_z w64 c.energy.result) ≡ c.energy.result = search rules in
    let share : to_z w64 c.args.share ≡ pos c.args.share = search rules in
    let to_pool : to_z w64 (of_z w64 c.to_payee.result) ≡ c.to_payee.result = search rules in
    let to_buyer : to_z w64 (of_z w64 c.to_payee-2.result) ≡ c.to_payee-2.result = search rules in
    let pool = to_pool ∙ c.to_payee.ensures.value prices c.requires.cuts in
    let buyer = to_buyer ∙ c.to_payee-2.ensures.value prices c.requires.cuts in
    λ i. record {
      holdback = (holdback ∙ c.holdback.ensures.value) i;
      energy = (energy ∙ c.energy.ensures.value) i;
      make_whole = share i;
      to_pool = pool i;
      to_buyer = buyer i;
    }
