use Rattle.std.proofs.Common.{arith}
use Rattle.std.proofs.lemmas.List.Edits.{fill_by_more}
use Rattle.rules.specs.LargestRemainder.{remainder, whole_part}
use Rattle.rules.specs.Counts.{sum_more}
use Rattle.rules.specs.LargestLaw.{whole_within}
use Rattle.rules.proofs.largest.whole_parts.Goals as goal

pub overflow_sub-left : goal.overflow_sub-left
overflow_sub-left c = grind (arith, whole_within)

pub loop-i-preserved : goal.loop-i-preserved
loop-i-preserved c =
    let d = c.args.division.now in
    let i = c.loop-i.i in
    record {
      wholes = rw c.whole_part-whole.ensures
          (fill_by_more (whole_part d.total d.claims.now) c.loop-i.shares i 0 (omega arith) c.loop-i.invariant.wholes);
      rests = rw c.remainder.ensures
          (fill_by_more (remainder d.total d.claims.now) c.loop-i.remainders i 0 (omega arith) c.loop-i.invariant.rests);
      left = grind (arith, sum_more, whole_within);
    }
