use Rattle.std.proofs.Common.{◌≡◌, suc, ◌<◌, length, ◌∙◌, rules, arith, refl, length-set}
use Rattle.tariff.specs.Answers.{told, refused, in_order}
use Rattle.tally.specs.MakeWhole.{sharing_answer}
use Rattle.book.specs.Books.{state_of}
use Rattle.book.specs.PricedDays.{prices_in}
use Rattle.tally.specs.Settlement.{make_whole}
use Rattle.book.proofs.RowWrites.{place_next}
use Rattle.book.proofs.Testing.{in_order_more, first_refused}
use Rattle.book.proofs.book.Book.lacking.Goals as goal

pub returns-in_err-amounts-clause-answer : goal.returns-in_err-amounts-clause-answer
returns-in_err-amounts-clause-answer c =
    let test = sharing_answer (state_of c.args.self.now) (prices_in c.args.prices.now) c.args.most c.args.hours.now.block in
    let e : told c.from_residual.result ≡ refused c.in_err-amounts.field-0.0 = search rules in
    e ∙ first_refused test c.loop-place.place c.in_err-amounts.field-0.0 c.loop-place.invariant.passed (rw c.at.ensures at c.in_err-amounts.ensures.answer)
    c.args.self.now.pool.parties (omega arith)

pub loop-place-preserved : goal.loop-place-preserved
loop-place-preserved c =
    let test = sharing_answer (state_of c.args.self.now) (prices_in c.args.prices.now) c.args.most c.args.hours.now.block in
    let n : length c.loop-place.amounts ≡ 12 = c.loop-place.invariant.places in
    let l : c.loop-place.place < length c.loop-place.amounts = omega arith in
    record {
      places = length-set _ _ _ ∙ n;
      passed = in_order_more test c.loop-place.place c.loop-place.invariant.passed (rw c.at.ensures at c.in_ok-amounts.ensures.answer);
      amounts =
          place_next 0 c.loop-place.amounts c.loop-place.place _
          (λ k x. x ≡ make_whole (state_of c.args.self.now) (prices_in c.args.prices.now) c.args.hours.now.block (suc k)) l
          (rw c.at.ensures at c.in_ok-amounts.ensures.value) c.loop-place.invariant.amounts;
    }

pub loop-place-init : goal.loop-place-init
unfolding in_order
loop-place-init c = record { places = refl; passed = refl; amounts = λ seller l. absurd (omega arith) }
