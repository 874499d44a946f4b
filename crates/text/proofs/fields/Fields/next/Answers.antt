use Rattle.std.proofs.Common.{◌-◌, take, drop, refl, ap, ◌∙◌, arith}
use Rattle.text.proofs.Cuts.{none_past, step}
use Rattle.text.proofs.fields.Fields.next.Goals as goal

pub returns-then-from-line : goal.returns-then-from-line
returns-then-from-line c = (none_past 9 c.args.self.now.line.now c.args.self.now.place (omega arith), refl)

pub returns : goal.returns
returns c =
    let line = c.args.self.now.line.now in
    let place = c.args.self.now.place in
    let field = step 9 line place c.end_of-end.result (omega arith) c.end_of-end.ensures.end in (
      rw c.field_of.ensures.bytes field,
      c.field_of.ensures.sorted,
      (refl, c.field_of.ensures.bytes ∙ ap (λ end. take (end - place) (drop place line)) (omega arith)),
    )
