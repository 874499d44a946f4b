use Rattle.std.proofs.Common.{◌≡◌, ◌+◌, ◌*◌, ◌≤◌, length, take}
use Rattle.lines.specs.Texts.{fields_text}
use Rattle.lines.proofs.writing.placing.line_len.Given as goal

abbrev pub invariant-loop-value : goal.invariant-loop-value
invariant-loop-value l =
    (l.len ≡ 1 + length (fields_text (take l.value-index l.values))) × (l.len ≤ 1 + 21 * l.value-index)
