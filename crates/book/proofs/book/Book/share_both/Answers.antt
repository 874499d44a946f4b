use Rattle.std.proofs.Common.{◌≡◌, get_or, ◌∙◌, rules}
use Rattle.tariff.specs.Answers.{told, refused}
use Rattle.book.specs.Books.{state_of}
use Rattle.book.specs.PricedDays.{prices_in}
use Rattle.book.proofs.Shares.{both_tested, first_tested, shared, sharing_granted}
use Rattle.book.proofs.book.Book.share_both.Goals as goal

pub returns-in_err-heavy-clause-answer : goal.returns-in_err-heavy-clause-answer
returns-in_err-heavy-clause-answer g c =
    let e : told c.from_residual.result ≡ refused c.in_err-heavy.field-0.0 = search rules in
    let heavy = rw c.allotted_hours-heavy_hours.ensures.block at c.in_err-heavy.ensures.answer in
    e ∙ first_tested (state_of c.args.self.now) (prices_in c.args.prices.now) _ _ _ c.most_claims-most.ensures heavy

pub returns-in_err-light-clause-answer : goal.returns-in_err-light-clause-answer
returns-in_err-light-clause-answer g c =
    let e : told c.from_residual-in_err-light.result ≡ refused c.in_err-light.field-0.0 = search rules in
    let heavy = rw c.allotted_hours-heavy_hours.ensures.block at c.in_ok-heavy.ensures.answer in
    let light = rw c.allotted_hours-light_hours.ensures.block at c.in_err-light.ensures.answer in
    e ∙ both_tested (state_of c.args.self.now) (prices_in c.args.prices.now) _ _ _ c.most_claims-most.ensures heavy light

pub share-heavy-requires-clause-taken : goal.share-heavy-requires-clause-taken
share-heavy-requires-clause-taken g c =
    sharing_granted (state_of c.args.self.now) (prices_in c.args.prices.now) _ _ c.most_claims-most.ensures
    c.allotted_hours-heavy_hours.result.block (λ seller. get_or c.in_ok-heavy.heavy seller 0)
    c.in_ok-heavy.ensures.answer c.in_ok-heavy.ensures.value

pub share-light-requires-clause-taken : goal.share-light-requires-clause-taken
share-light-requires-clause-taken g c =
    sharing_granted (state_of c.args.self.now) (prices_in c.args.prices.now) _ _ c.most_claims-most.ensures
    c.allotted_hours-light_hours.result.block (λ seller. get_or c.in_ok-light.light seller 0)
    c.in_ok-light.ensures.answer c.in_ok-light.ensures.value

pub returns-clause-answer : goal.returns-clause-answer
returns-clause-answer g c =
    let heavy = rw c.allotted_hours-heavy_hours.ensures.block at c.in_ok-heavy.ensures.answer in
    let light = rw c.allotted_hours-light_hours.ensures.block at c.in_ok-light.ensures.answer in
    both_tested (state_of c.args.self.now) (prices_in c.args.prices.now) _ _ _ c.most_claims-most.ensures heavy light

pub returns-clause-shared : goal.returns-clause-shared
returns-clause-shared g c =
    let heavy_is = c.allotted_hours-heavy_hours.ensures.block in
    let light_is = c.allotted_hours-light_hours.ensures.block in
    shared g.R.DivisionRule.LIMIT _ (state_of c.args.self.now) (prices_in c.args.prices.now) _
    (g.R.DivisionRule.meaning c.share-heavy.new.rule) _
    c.share-heavy.result c.share-light.result (λ seller. get_or c.in_ok-heavy.heavy seller 0)
    (λ seller. get_or c.in_ok-light.light seller 0)
    (rw heavy_is at c.in_ok-heavy.ensures.value) (rw light_is at c.in_ok-light.ensures.value)
    (rw heavy_is at c.share-heavy.ensures) (rw light_is at c.share-light.ensures)
