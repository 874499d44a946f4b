use Rattle.text.specs.Fields.{fields_left}
use Rattle.lines.specs.Shapes.{kinds_of}
use Rattle.lines.proofs.FieldReads.{ReadSoFar}
use Rattle.lines.proofs.reading.spelling.row_in.Given as goal

abbrev pub invariant-loop-i : goal.invariant-loop-i
invariant-loop-i l = ReadSoFar (kinds_of l.shape) (fields_left l.fields) l.i l.values (fields_left l.rest)
