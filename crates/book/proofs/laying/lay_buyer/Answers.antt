use Rattle.std.proofs.Common.{◌≡◌, ◌+◌, ◌-◌, length, get_or, min, max, refl, sym, ◌∙◌, add-one, rules, arith}
use Rattle.tally.proofs.Numbering.{total_none, total_more}
use Rattle.book.specs.Records.{at}
use Rattle.book.proofs.Filling.{filled_more}
use Rattle.book.proofs.Stretches.{stretch, row_all}
use Rattle.book.proofs.laying.lay_buyer.Goals as goal

pub loop-place-init : goal.loop-place-init
loop-place-init c =
    record {
      start = sym (total_none (at 0 c.args.holdings.now));
      small = omega arith;
      filled = record { long = refl; here = λ k l. absurd (omega arith) };
    }

pub loop-place-preserved : goal.loop-place-preserved
loop-place-preserved c =
    let holdings = at 0 c.args.holdings.now in
    let place = c.loop-place.place in
    let more = total_more holdings place in
    let start = c.loop-place.invariant.start in
    let here : c.saturating_sub.result
    ≡ min (c.loop-place.first + get_or c.args.holdings.now place 0) c.args.end - max c.loop-place.first c.args.start = search rules in
    record {
      start = rw add-one (omega arith);
      small = omega arith;
      filled =
          filled_more 0 c.loop-place.pairs (stretch holdings c.args.start c.args.end) place _ c.loop-place-test.true
          c.loop-place.invariant.filled
          (here ∙ omega arith);
    }

pub returns : goal.returns
returns c =
    let long : length c.args.holdings.now ≡ 12 = search rules in
    row_all c.args.holdings.now long c.loop-place.pairs c.args.start c.args.end c.loop-place.place c.loop-place-test.false
    c.loop-place.invariant.filled
