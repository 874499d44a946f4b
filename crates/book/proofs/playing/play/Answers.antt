use Rattle.std.proofs.Common.{◌≡◌, ◌<◌, ◌≤◌, length, ◌∙◌, rules, arith, to_z-of_z}
use Rattle.tariff.specs.Answers.{told, refused}
use Rattle.book.proofs.Played.{playing_none, playing_more, playing_all}
use Rattle.book.proofs.playing.play.Goals as goal

pub returns-in_err-book-clause-answer : goal.returns-in_err-book-clause-answer
returns-in_err-book-clause-answer g c =
    let t : told c.from_residual.result ≡ refused c.in_err-book.field-0.0 = search rules in
    t ∙ (simp (to_z-of_z, c.ranges.parties, c.ranges.full_rate, c.ranges.step_rate) at c.in_err-book.ensures.answer)

pub loop-call-init : goal.loop-call-init
loop-call-init g c = playing_none _ _ _ _ _ _ _ c.in_ok-book.ensures.begun

pub loop-call-preserved : goal.loop-call-preserved
loop-call-preserved g c =
    let m : c.loop-call.call-index < length c.loop-call.calls = omega (arith, c.loop-call.auto.calls) in
    playing_more _ _ _ _ _ _ _ _ _ _ c.call-item.result c.make.new.self c.loop-call.invariant c.loop-call-test.true m
    c.make.ensures.enters c.make.ensures.entry c.make.ensures.source c.make.ensures.same_rule

pub returns-clause-answer : goal.returns-clause-answer
returns-clause-answer g c = simp (to_z-of_z, c.ranges.parties, c.ranges.full_rate, c.ranges.step_rate) at c.in_ok-book.ensures.answer

pub returns-clause-played : goal.returns-clause-played
returns-clause-played g c =
    let m : length c.loop-call.calls ≤ c.loop-call.call-index = omega (arith, c.loop-call.auto.calls, c.loop-call-test.false) in
    let p = playing_all _ _ _ _ _ _ _ _ _ c.loop-call.invariant c.loop-call-test.false m in
    simp (to_z-of_z, c.ranges.parties, c.ranges.full_rate, c.ranges.step_rate) at p
