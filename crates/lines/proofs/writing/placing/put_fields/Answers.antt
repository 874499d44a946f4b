use Rattle.std.proofs.Common.{pos, arith}
use Rattle.lines.specs.declared.value.Value.TheVariants.{Figure}
use Rattle.lines.proofs.Filling.{room, put_more}
use Rattle.lines.proofs.writing.placing.put_fields.Goals as goal

pub put_field-at-requires : goal.put_field-at-requires
put_field-at-requires c =
    let enough = room c.args.values.now c.loop-value.value-index (Figure (pos 0)) (omega arith) in
    omega (arith, c.loop-value.invariant.1, c.requires)

pub loop-value-preserved : goal.loop-value-preserved
loop-value-preserved c =
    put_more c.args.target.now c.args.from c.args.values.now c.loop-value.value-index
    c.loop-value.target c.loop-value.at c.put_field-at.new.target c.put_field-at.result (Figure (pos 0))
    (omega arith) c.requires c.loop-value.invariant c.put_field-at.ensures.put c.put_field-at.ensures.end
