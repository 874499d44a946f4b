use Rattle.std.proofs.Common.{sym, rules, arith}
use Rattle.tally.proofs.Numbering.{total_none}
use Rattle.book.proofs.Steps.{total_step}
use Rattle.book.proofs.sums.total_mw.Goals as goal

pub loop-place-init : goal.loop-place-init
loop-place-init c = record { sum = sym (total_none _); small = omega arith }

pub loop-place-preserved : goal.loop-place-preserved
loop-place-preserved c = record {
  sum = total_step _ c.loop-place.place _ _ c.loop-place.invariant.sum (search rules);
  small = omega arith;
}
