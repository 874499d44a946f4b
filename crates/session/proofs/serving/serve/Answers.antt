use Rattle.std.proofs.Common.{◌-◌, ◌≤◌, Ok, Err, length, take, drop, rules, arith}
use Rattle.std.proofs.KnownBytes.{Keeps-refl}
use Rattle.session.proofs.Reading.{front_stays, read_behind}
use Rattle.session.proofs.Served.{nothing_yet, stopped, finished, broke_off, goes_further}
use Rattle.session.proofs.serving.serve.Goals as goal

pub loop-init : goal.loop-init
loop-init g c = nothing_yet _ c.args.session.now _ _ (search rules)

pub returns-in-Err : goal.returns-in-Err
returns-in-Err g c = stopped _ _ _ _ _ _ _ _ c.loop.invariant _ c.in-Err.e c.in-Err.ensures.retried c.in-Err.ensures.read

pub returns-in-Ok-answer_last : goal.returns-in-Ok-answer_last
returns-in-Ok-answer_last g c =
    let bytes = c.read_some.new.bytes in
    let behind = drop (65536 - c.loop.kept) (drop c.loop.kept c.loop.held) in
    let within : c.loop.kept ≤ length c.loop.held = omega (arith, c.loop.invariant.few, c.loop.invariant.long) in
    let came = c.in-Ok.ensures.read.0 in
    finished _ _ _ _ _ _ _ _ c.loop.invariant (g.R.Read.remaining c.read_some.new.reader) c.answer_last.new.session
    (g.W.Write.contents c.answer_last.new.writer) (Ok c.in-Ok-answer_last.field-0) _
    (front_stays c.loop.held bytes behind c.loop.kept within) (rw c.if-count-eq0.true at came)
    (c.in-Ok.ensures.read.1 c.if-count-eq0.true (omega (arith, c.read_some.auto.bytes, c.loop.invariant.few))) c.in-Ok-answer_last.ensures

pub returns-in-Err-answer_last : goal.returns-in-Err-answer_last
returns-in-Err-answer_last g c =
    let bytes = c.read_some.new.bytes in
    let behind = drop (65536 - c.loop.kept) (drop c.loop.kept c.loop.held) in
    let within : c.loop.kept ≤ length c.loop.held = omega (arith, c.loop.invariant.few, c.loop.invariant.long) in
    let came = c.in-Ok.ensures.read.0 in
    finished _ _ _ _ _ _ _ _ c.loop.invariant (g.R.Read.remaining c.read_some.new.reader) c.answer_last.new.session
    (g.W.Write.contents c.answer_last.new.writer) (Err c.in-Err-answer_last.e) _
    (front_stays c.loop.held bytes behind c.loop.kept within) (rw c.if-count-eq0.true at came)
    (c.in-Ok.ensures.read.1 c.if-count-eq0.true (omega (arith, c.read_some.auto.bytes, c.loop.invariant.few))) c.in-Err-answer_last.ensures

pub returns-in-Err-answer_ended : goal.returns-in-Err-answer_ended
returns-in-Err-answer_ended g c =
    let bytes = c.read_some.new.bytes in
    let behind = drop (65536 - c.loop.kept) (drop c.loop.kept c.loop.held) in
    let within : c.loop.kept ≤ length c.loop.held = omega (arith, c.loop.invariant.few, c.loop.invariant.long) in
    broke_off _ _ _ _ _ _ _ _ c.loop.invariant (g.R.Read.remaining c.read_some.new.reader) c.answer_ended.new.session
    (g.W.Write.contents c.answer_ended.new.writer) c.answer_ended.result _ (take c.in-Ok.count bytes)
    (read_behind c.loop.held bytes behind c.loop.kept c.in-Ok.count within c.in-Ok.ensures.bound.0)
    c.in-Ok.ensures.read.0 c.answer_ended.ensures c.in-Err-answer_ended.e

pub loop-preserved : goal.loop-preserved
loop-preserved g c =
    let bytes = c.read_some.new.bytes in
    let behind = drop (65536 - c.loop.kept) (drop c.loop.kept c.loop.held) in
    let within : c.loop.kept ≤ length c.loop.held = omega (arith, c.loop.invariant.few, c.loop.invariant.long) in
    goes_further _ _ _ _ _ _ _ _ c.loop.invariant (g.R.Read.remaining c.read_some.new.reader) c.answer_ended.new.session
    (g.W.Write.contents c.answer_ended.new.writer) c.answer_ended.result _ (take c.in-Ok.count bytes)
    (read_behind c.loop.held bytes behind c.loop.kept c.in-Ok.count within c.in-Ok.ensures.bound.0)
    c.in-Ok.ensures.read.0 c.answer_ended.ensures c.in-Ok-answer_ended.from c.in-Ok-answer_ended.is
    c.keep-kept.new.held c.keep-kept.result c.keep-kept.array_long c.keep-kept.ensures.few c.keep-kept.ensures.kept

pub returns : goal.returns
returns g c = stopped _ _ _ _ _ _ _ _ c.loop.invariant _ c.from.result (search rules) (Keeps-refl _)
