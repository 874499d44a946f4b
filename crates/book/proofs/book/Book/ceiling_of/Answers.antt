use Rattle.std.proofs.Common.{◌≡◌, ◌≤◌, ◌+◌, refl, sym, rules, arith}
use Rattle.tally.proofs.Numbering.{total_none, greatest_none, greatest_le_total}
use Rattle.book.specs.Records.{at}
use Rattle.book.proofs.Ceilings.{sum_small, full_part_small, step_part_small, made_of, within}
use Rattle.book.proofs.Steps.{total_step, greatest_step}
use Rattle.book.proofs.book.Book.ceiling_of.Goals as goal

pub loop-miss-init : goal.loop-miss-init
loop-miss-init c = record { most = sym (greatest_none _); sum = sym (total_none _) }

pub overflow_add-all : goal.overflow_add-all
overflow_add-all c =
    let sum = total_step _ c.loop-miss.miss-index _ _ c.loop-miss.invariant.sum refl in
    let few : c.loop-miss.miss-index + 1 ≤ 12 = search rules in
    let small = sum_small c.args.self.now _ c.requires (c.loop-miss.miss-index + 1) few in
    search (rules, sum, small)

pub loop-miss-preserved : goal.loop-miss-preserved
loop-miss-preserved c =
    let most = greatest_step _ c.loop-miss.miss-index _ _ c.loop-miss.invariant.most refl in
    record {
      most = search (rules, most);
      sum = total_step _ c.loop-miss.miss-index _ _ c.loop-miss.invariant.sum refl;
    }

pub overflow_mul-result : goal.overflow_mul-result
overflow_mul-result c =
    let e : c.loop-miss.miss-index ≡ 12 = search rules in
    let most = rw e at c.loop-miss.invariant.most in
    let small = full_part_small c.args.self.now _ c.requires in
    rw most (search (rules, small))

pub overflow_sub-result : goal.overflow_sub-result
overflow_sub-result c = omega (
  arith,
  c.loop-miss.invariant.most,
  c.loop-miss.invariant.sum,
  greatest_le_total (at 0 c.args.misses.now) c.loop-miss.miss-index,
)

pub overflow_mul-result-2 : goal.overflow_mul-result-2
overflow_mul-result-2 c =
    let e : c.loop-miss.miss-index ≡ 12 = search rules in
    let most = rw e at c.loop-miss.invariant.most in
    let sum = rw e at c.loop-miss.invariant.sum in
    let small = step_part_small c.args.self.now _ c.requires in
    rw (most, sum) (search (rules, small))

pub overflow_add-result : goal.overflow_add-result
overflow_add-result c =
    let e : c.loop-miss.miss-index ≡ 12 = search rules in
    let most = rw e at c.loop-miss.invariant.most in
    let sum = rw e at c.loop-miss.invariant.sum in
    let one = full_part_small c.args.self.now _ c.requires in
    let small = step_part_small c.args.self.now _ c.requires in
    rw (most, sum) (search (rules, one, small))

pub returns-clause-value : goal.returns-clause-value
returns-clause-value c =
    let e : c.loop-miss.miss-index ≡ 12 = search rules in
    made_of c.args.self.now _ c.requires _ _ (rw e at c.loop-miss.invariant.most) (rw e at c.loop-miss.invariant.sum)

pub returns-clause-size : goal.returns-clause-size
returns-clause-size c =
    let e : c.loop-miss.miss-index ≡ 12 = search rules in
    let value = made_of c.args.self.now _ c.requires _ _ (rw e at c.loop-miss.invariant.most)
    (rw e at c.loop-miss.invariant.sum) in
    let small = within c.args.self.now _ c.requires in
    rw value small
