use Rattle.std.proofs.Common.{◌≡◌, suc, length, refl, rules, arith}
use Rattle.std.proofs.lemmas.List.{get_or_past}
use Rattle.book.specs.Records.{at}
use Rattle.book.proofs.Filling.{filled_more, filled_all}
use Rattle.book.proofs.widths.narrowed.Goals as goal

pub overflow_cast-narrow : goal.overflow_cast-narrow
overflow_cast-narrow c = let fits = c.requires (suc c.loop-place.place) in omega arith

pub loop-place-preserved : goal.loop-place-preserved
loop-place-preserved c =
    filled_more 0 c.loop-place.narrow (at 0 c.args.figures.now) c.loop-place.place _ c.loop-place-test.true c.loop-place.invariant refl

pub returns : goal.returns
returns c =
    let long : length c.args.figures.now ≡ 12 = search rules in
    filled_all 0 c.loop-place.narrow (at 0 c.args.figures.now) c.loop-place.place c.loop-place-test.false c.loop-place.invariant refl
    (λ k l. get_or_past c.args.figures.now k 0 (omega arith))
