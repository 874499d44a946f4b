use Rattle.session.proofs.Served.{SoFar}
use Rattle.session.proofs.serving.serve.Given as goal

abbrev pub invariant-loop : goal.invariant-loop
invariant-loop g l =
    SoFar (g.R.Read.remaining l.fn.reader) (g.R.Read.remaining l.reader) l.fn.session l.session
    (g.W.Write.contents l.fn.writer) (g.W.Write.contents l.writer) l.held l.kept
