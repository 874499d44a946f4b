use Rattle.std.proofs.Common.{◌≡◌, ◌<◌, length, get_or, string_bytes, Some, Err, ◌∙◌, ap, rules, arith}
use Rattle.holdbook.proofs.Runs.{alone, begun, broke_off, count_inputs, ended, further, named, unopened}
use Rattle.holdbook.proofs.running.answer.Goals as goal

pub returns-then-is_empty : goal.returns-then-is_empty
returns-then-is_empty g c =
    let none : length c.args.names.now ≡ 0 = search rules in
    alone c.args.names.now c.new-session.result c.answer_input.new.session c.answer_input.result (g.W.Write.contents c.args.writer.now)
    (g.W.Write.contents c.answer_input.new.writer) none c.new-session.ensures c.answer_input.ensures

pub loop-name-init : goal.loop-name-init
loop-name-init g c = begun c.new-session.result _ c.new-session.ensures

pub returns-in_err-answer_input-in-Ok : goal.returns-in_err-answer_input-in-Ok
returns-in_err-answer_input-in-Ok g c =
    let same : c.from_residual.result ≡ Err c.in_err-answer_input-in-Ok.field-0.0 = search rules in
    let name : string_bytes (get_or c.args.names.now c.loop-name.name-index c.name-item.result) ≡ c.deref.result.now = search rules in
    rw same (broke_off _ _ _ _ _ c.loop-name.invariant c.deref.result.now c.answer_input-in-Ok.new.session
    (g.W.Write.contents c.answer_input-in-Ok.new.writer) c.args.names.now c.in_err-answer_input-in-Ok.field-0.0
    (named c.args.names.now c.loop-name.name-index c.name-item.result c.loop-name-test.true ∙ ap Some name)
    c.in_err-answer_input-in-Ok.ensures)

pub returns-in-Err : goal.returns-in-Err
returns-in-Err g c =
    let name : string_bytes (get_or c.args.names.now c.loop-name.name-index c.name-item.result) ≡ c.deref-in-Err.result.now =
    search rules in
    broke_off _ _ _ _ _ c.loop-name.invariant c.deref-in-Err.result.now c.loop-name.session (g.W.Write.contents c.loop-name.writer)
    c.args.names.now _
    (named c.args.names.now c.loop-name.name-index c.name-item.result c.loop-name-test.true ∙ ap Some name)
    (unopened c.deref-in-Err.result c.loop-name.session (g.W.Write.contents c.loop-name.writer) c.in-Err.error)

pub loop-name-preserved : goal.loop-name-preserved
loop-name-preserved g c =
    further _ _ _ _ _ c.loop-name.invariant c.deref.result.now c.answer_input-in-Ok.new.session
    (g.W.Write.contents c.answer_input-in-Ok.new.writer) c.in_ok-answer_input-in-Ok.ensures

pub returns : goal.returns
returns g c =
    let some : 0 < length c.args.names.now = search rules in
    ended c.args.names.now _ _ _ _ _ c.loop-name.invariant
    (omega (arith, some, count_inputs c.args.names.now some, c.loop-name-test.false, c.loop-name.auto.name-index-end))
