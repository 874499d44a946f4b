use Rattle.std.proofs.Common.{arith}
use Rattle.sessions.proofs.Lines.{past_feed, past_other}
use Rattle.sessions.proofs.comparing.line_count.Goals as goal
use Rattle.sessions.proofs.comparing.line_count.Goals.{then-byte-eq-LINE_FEED, else-byte-eq-LINE_FEED}

pub loop-byte-preserved : goal.loop-byte-preserved
loop-byte-preserved c =
    elim c.if-byte-eq-LINE_FEED.branch [
      | then-byte-eq-LINE_FEED w ↦
          rw (w.ended-is, w.goes_on-is) (record {
            few = omega arith;
            count = past_feed _ _ _ _ c.loop-byte-test.true c.loop-byte.invariant.count w.if-byte-eq-LINE_FEED.true;
          })
      | else-byte-eq-LINE_FEED w ↦
          rw (w.ended-is, w.goes_on-is) (record {
            few = omega arith;
            count = past_other _ _ _ _ c.loop-byte-test.true c.loop-byte.invariant.count w.if-byte-eq-LINE_FEED.false;
          })
    ]
