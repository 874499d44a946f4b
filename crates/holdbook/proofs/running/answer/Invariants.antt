use Rattle.holdbook.proofs.Runs.{SoFar}
use Rattle.holdbook.proofs.running.answer.Given as goal

abbrev pub invariant-loop-name : goal.invariant-loop-name
invariant-loop-name g l =
    SoFar l.name-index l.initial.session l.session (g.W.Write.contents l.fn.writer) (g.W.Write.contents l.writer)
