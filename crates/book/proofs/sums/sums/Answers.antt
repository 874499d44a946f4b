use Rattle.std.proofs.Common.{◌≡◌, suc, ◌+◌, length, refl, rules, arith}
use Rattle.std.proofs.lemmas.List.{get_or_past}
use Rattle.book.specs.Records.{at}
use Rattle.book.proofs.Filling.{filled_more, filled_all}
use Rattle.book.proofs.sums.sums.Goals as goal

pub overflow_add-sums : goal.overflow_add-sums
overflow_add-sums c = let fits = c.requires (suc c.loop-place.place) in omega arith

pub loop-place-preserved : goal.loop-place-preserved
loop-place-preserved c =
    filled_more 0 c.loop-place.sums (λ party. at 0 c.args.some.now party + at 0 c.args.others.now party) c.loop-place.place _
    c.loop-place-test.true c.loop-place.invariant refl

pub returns : goal.returns
returns c =
    let some : length c.args.some.now ≡ 12 = search rules in
    let others : length c.args.others.now ≡ 12 = search rules in
    filled_all 0 c.loop-place.sums (λ party. at 0 c.args.some.now party + at 0 c.args.others.now party) c.loop-place.place
    c.loop-place-test.false c.loop-place.invariant refl
    (λ k l. omega (arith, get_or_past c.args.some.now k 0 (omega arith), get_or_past c.args.others.now k 0 (omega arith)))
