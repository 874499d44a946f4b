use Rattle.std.proofs.Common.{length, get_or, ap, arith}
use Rattle.text.specs.Fields.{fields_left}
use Rattle.lines.specs.Shapes.{kinds_of}
use Rattle.lines.specs.declared.shape.Kind.TheVariants.{Figure}
use Rattle.lines.proofs.FieldReads.{read_more, misspelt_at}
use Rattle.lines.proofs.Tables.{kinds_few}
use Rattle.lines.proofs.reading.spelling.row_in.Goals as goal

pub returns-in-None : goal.returns-in-None
returns-in-None c =
    let kinds = c.kinds-kind-items.ensures in
    let few = kinds_few c.args.shape in
    let count = ap length kinds in
    misspelt_at (kinds_of c.args.shape) (fields_left c.args.fields) c.loop-i.i c.loop-i.values
    (fields_left c.loop-i.rest) _ Figure
    (omega arith) (omega arith) c.requires (omega arith) c.loop-i.invariant (rw kinds at c.in-None.ensures)

pub loop-i-preserved : goal.loop-i-preserved
loop-i-preserved c =
    let kinds = c.kinds-kind-items.ensures in
    let few = kinds_few c.args.shape in
    let count = ap length kinds in
    read_more (kinds_of c.args.shape) (fields_left c.args.fields) c.loop-i.i c.loop-i.values (fields_left c.loop-i.rest)
    (fields_left c.next_value.new.fields) c.in-Some.ensures.0
    Figure (get_or c.kinds-kind-items.result.now c.loop-i.i Figure) c.in-Some.value
    (omega arith) (omega arith) (ap (λ ks. get_or ks c.loop-i.i Figure) kinds) c.loop-i.invariant
    c.in-Some.ensures.1.0 c.in-Some.ensures.1.1
