use Rattle.std.proofs.Common.{◌≡◌, length, rules}
use Rattle.session.proofs.Reading.{empty_answered}
use Rattle.session.proofs.serving.answer_last.Goals as goal

pub returns-then-is_empty : goal.returns-then-is_empty
returns-then-is_empty g c =
    let none : length c.args.bytes.now ≡ 0 = search rules in
    empty_answered c.args.session.now _ _ c.args.bytes.now none
