use Rattle.std.proofs.Common.{◌-◌, length, drop, arith}
use Rattle.std.proofs.lemmas.List.{take_all, length-drop}
use Rattle.text.proofs.Ends.{end_by_count}
use Rattle.text.proofs.pieces.end_of.Goals as goal

pub returns-clause-end : goal.returns-clause-end
returns-clause-end c =
    let bytes = c.args.bytes.now in
    let from = c.min-from.result in
    let rest = take_all (length bytes - from) (drop from bytes) (simp length-drop (omega arith)) in
    rw (c.length_before.ensures.count, rest) (end_by_count c.args.stop bytes c.args.from from c.min-from.ensures)
