use Rattle.std.proofs.Common.{ap, length, arith}
use Rattle.text.proofs.Counts.{compared, pieces_behind}
use Rattle.text.proofs.Cuts.{none_past}
use Rattle.text.proofs.fields.Fields.are.Goals as goal

pub returns-then-self : goal.returns-then-self
returns-then-self c =
    compared _ 0 c.args.count (ap length (none_past 9 c.args.self.now.line.now c.args.self.now.place (omega arith)))

pub returns : goal.returns
returns c =
    let tabs = c.tabs_in in
    compared _ _ c.args.count
    (pieces_behind 9 c.args.self.now.line.now c.args.self.now.place tabs.result (omega arith) tabs.ensures.count)
