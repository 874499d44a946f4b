use Rattle.std.proofs.Common.{length, arith}
use Rattle.std.proofs.lemmas.List.FromFn.{fill_by_all}
use Rattle.std.proofs.lemmas.List.Sums.{sum_by_more_le}
use Rattle.rules.specs.RunningTotal.{running_share}
use Rattle.rules.proofs.running.share.Goals as goal

pub whole_part-reached-requires : goal.whole_part-reached-requires
whole_part-reached-requires c = omega (arith, sum_by_more_le (λ x. x) c.args.division.now.claims.now c.loop-i.i 0 (omega arith))

pub returns : goal.returns
returns c =
    let d = c.args.division.now in
    fill_by_all (running_share d.total d.claims.now) c.loop-i.shares (length d.claims.now) 0 (omega arith)
    (λ k h. c.loop-i.invariant.written k (omega arith))
