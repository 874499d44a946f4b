use Rattle.std.proofs.Common.{◌≡◌, length, pos, unwrap_or, w64, SFits, refl, ap, ◌∙◌, rules}
use Rattle.std.proofs.lemmas.Int.{to_z-of_z}
use Rattle.tariff.specs.Answers.{told, refused}
use Rattle.tally.specs.DayPrices.{needed_quotes_answer}
use Rattle.book.specs.Books.{state_of}
use Rattle.book.proofs.Testing.{first_refused}
use Rattle.book.proofs.Gathering.{gathered_none, gathered_more, gathered_prices, unheld}
use Rattle.book.proofs.book.Book.price.Goals as goal

pub loop-place-init : goal.loop-place-init
loop-place-init g c = gathered_none _ _ _ _ refl refl

pub returns-in_err-quotes-clause-answer : goal.returns-in_err-quotes-clause-answer
returns-in_err-quotes-clause-answer g c =
    let t : told c.from_residual.result ≡ refused c.in_err-quotes.field-0.0 = search rules in
    t ∙ first_refused (needed_quotes_answer (state_of c.args.self.now) (g.S.PriceSource.tables c.args.source.now)) c.loop-place.place
    c.in_err-quotes.field-0.0 c.loop-place.invariant.found (rw c.at-hour.ensures at c.in_err-quotes.ensures.answer) 24 c.loop-place-test.true

pub loop-place-preserved : goal.loop-place-preserved
loop-place-preserved g c =
    let fits : SFits w64 c.in_ok-quotes.quotes.real_time = search rules in
    gathered_more (state_of c.args.self.now) (g.S.PriceSource.tables c.args.source.now) c.loop-place.place
    c.loop-place.real_time c.loop-place.factors _ c.in_ok-quotes.quotes.factor c.loop-place-test.true
    c.loop-place.invariant (rw c.at-hour.ensures at c.in_ok-quotes.ensures.answer)
    (to_z-of_z w64 _ fits ∙ (rw c.at-hour.ensures at c.in_ok-quotes.ensures.real_time))
    (rw c.at-hour.ensures at c.in_ok-quotes.ensures.factor)

pub returns-clause-value : goal.returns-clause-value
returns-clause-value g c =
    let places : length c.args.self.now.day.hours ≡ 24 = search rules in
    let heavy : SFits w64 c.unwrap_or.result = search rules in
    let light : SFits w64 c.unwrap_or-2.result = search rules in
    gathered_prices _ _ _ _ _ c.loop-place-test.false c.loop-place.invariant (unheld c.args.self.now places) _ _ _
    (to_z-of_z w64 _ heavy ∙ c.unwrap_or.ensures ∙ ap (λ quote. unwrap_or quote.cents (pos 0)) c.ask_block-heavy.ensures)
    (to_z-of_z w64 _ light ∙ c.unwrap_or-2.ensures ∙ ap (λ quote. unwrap_or quote.cents (pos 0)) c.ask_block-light.ensures)
    c.new.ensures.prices
