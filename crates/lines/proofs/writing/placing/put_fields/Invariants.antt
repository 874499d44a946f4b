use Rattle.lines.proofs.Filling.{PutSoFar}
use Rattle.lines.proofs.writing.placing.put_fields.Given as goal

abbrev pub invariant-loop-value : goal.invariant-loop-value
invariant-loop-value l = PutSoFar l.initial.target l.from l.values l.value-index l.target l.at
