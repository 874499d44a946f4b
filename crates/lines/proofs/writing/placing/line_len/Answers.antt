use Rattle.std.proofs.Common.{pos, arith}
use Rattle.lines.specs.declared.value.Value.TheVariants.{Figure}
use Rattle.lines.proofs.Filling.{length_more}
use Rattle.lines.proofs.writing.placing.line_len.Goals as goal

pub loop-value-preserved : goal.loop-value-preserved
loop-value-preserved c =
    let more = length_more c.args.values.now c.loop-value.value-index (Figure (pos 0)) (omega arith) in (
      omega (arith, c.loop-value.invariant.0, c.value_len.ensures.len),
      omega (arith, c.loop-value.invariant.1, c.value_len.ensures.few),
    )
