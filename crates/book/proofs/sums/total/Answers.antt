use Rattle.std.proofs.Common.{◌≤◌, suc, refl, sym, rules, mul-le-mul_right, arith}
use Rattle.tally.proofs.Numbering.{total_none, total_bound}
use Rattle.book.specs.Records.{at}
use Rattle.book.proofs.Steps.{total_step}
use Rattle.book.proofs.sums.total.Goals as goal

pub loop-place-init : goal.loop-place-init
loop-place-init c = record { sum = sym (total_none _); small = omega arith }

pub overflow_add-sum : goal.overflow_add-sum
overflow_add-sum c = let small = c.requires.small (suc c.loop-place.place) in search (rules, small)

pub loop-place-preserved : goal.loop-place-preserved
loop-place-preserved c =
    let small = c.requires.small (suc c.loop-place.place) in
    record { sum = total_step _ c.loop-place.place _ _ c.loop-place.invariant.sum refl; small = omega (arith, small) }

pub returns-clause-size : goal.returns-clause-size
returns-clause-size c = λ most within.
    let few : c.loop-place.place ≤ 12 = omega arith in
    omega (
      arith,
      total_bound (at 0 c.args.figures.now) most c.loop-place.place (λ party _ _. within party),
      mul-le-mul_right most few,
    )
