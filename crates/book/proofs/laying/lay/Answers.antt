use Rattle.std.proofs.Common.{◌≡◌, suc, ◌+◌, length, get_or, refl, sym, ◌∙◌, ap₂, add-one, rules, arith}
use Rattle.tally.specs.Numbered.{total}
use Rattle.tally.proofs.Numbering.{total_none, total_more}
use Rattle.book.specs.Records.{at}
use Rattle.book.proofs.Stretches.{stretch, rows_more, rows_all}
use Rattle.book.proofs.laying.lay.Goals as goal

pub loop-place-init : goal.loop-place-init
loop-place-init c =
    record {
      start = sym (total_none (at 0 c.args.requests.now));
      small = omega arith;
      rows = record { long = refl; here = λ k l. absurd (omega arith) };
    }

pub loop-place-preserved : goal.loop-place-preserved
loop-place-preserved c =
    let holdings = at 0 c.args.holdings.now in
    let requests = at 0 c.args.requests.now in
    let place = c.loop-place.place in
    let more = total_more requests place in
    let start = c.loop-place.invariant.start in
    let wide : c.from.result ≡ get_or c.args.requests.now place 0 = search rules in
    let end : c.loop-place.start + c.from.result ≡ total requests (suc place) = omega arith in
    record {
      start = rw add-one end;
      small = omega arith;
      rows = rows_more c.loop-place.rows holdings requests place _ c.loop-place-test.true c.loop-place.invariant.rows
          (c.lay_buyer.ensures ∙ ap₂ (stretch holdings) start end);
    }

pub returns : goal.returns
returns c =
    let long : length c.args.requests.now ≡ 12 = search rules in
    rows_all c.loop-place.rows (at 0 c.args.holdings.now) c.args.requests.now c.loop-place.place long c.loop-place-test.false
    c.loop-place.invariant.rows
