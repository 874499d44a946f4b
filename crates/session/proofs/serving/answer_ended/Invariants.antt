use Rattle.std.proofs.Common.{length, ◌-◌}
use Rattle.session.proofs.Answering.{Between}
use Rattle.session.proofs.serving.answer_ended.Given as goal

abbrev pub invariant-loop-end : goal.invariant-loop-end
invariant-loop-end g l =
    Between l.bytes l.from l.end l.fn.session l.session (g.W.Write.contents l.fn.writer) (g.W.Write.contents l.writer)

abbrev pub decreases-loop-end : goal.decreases-loop-end
decreases-loop-end g l = length l.bytes - l.end
