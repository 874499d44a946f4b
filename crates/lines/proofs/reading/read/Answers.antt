use Rattle.std.proofs.Common.{rules}
use Rattle.text.specs.Fields.{fields_left}
use Rattle.lines.proofs.LineReads.{line_made}
use Rattle.lines.proofs.reading.read.Goals as goal

pub returns-in-Ok : goal.returns-in-Ok
returns-in-Ok c =
    line_made c.args.line.now c.in_ok-shape.shape (fields_left c.shape_begun.new.fields) c.in-Ok.row c.entry.result
    (search rules) c.in-Ok.ensures c.entry.ensures.shape c.entry.ensures.values
