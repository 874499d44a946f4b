use Rattle.std.proofs.Common.{[], refl, arith}
use Rattle.session.proofs.Answering.{went_none, went_piece, ended_early, ended_as, on_err_all}
use Rattle.session.proofs.serving.answer_ended.Goals as goal

pub loop-end-init : goal.loop-end-init
loop-end-init g c = record {
  lines = [];
  pieces = refl;
  went = went_none c.args.session.now _;
  within = omega arith;
  order = omega arith;
  ends = c.end_of-end.ensures.end;
}

pub returns-in_err-answer : goal.returns-in_err-answer
returns-in_err-answer g c =
    ended_early _ _ _ _ _ _ _ c.loop-end.invariant _ _ _ c.from_residual.result c.answer.ensures c.loop-end-test.true
    c.from_residual.ensures.0

pub loop-end-preserved : goal.loop-end-preserved
loop-end-preserved g c =
    went_piece _ _ _ _ _ _ _ c.loop-end.invariant _ _ _ _ refl c.in_ok-answer.ensures c.loop-end-test.true
    c.end_of-end-in-loop-end.ensures.end

pub returns-in_err-flush : goal.returns-in_err-flush
returns-in_err-flush g c =
    ended_as _ _ _ _ _ _ _ c.loop-end.invariant _ c.flush.ensures.bytes (omega (arith, c.loop-end-test.false))
    c.from_residual-in_err-flush.result
    (on_err_all _ c.from_residual-in_err-flush.result c.from_residual-in_err-flush.ensures.0)

pub returns : goal.returns
returns g c =
    ended_as _ _ _ _ _ _ _ c.loop-end.invariant _ c.flush.ensures.bytes (omega (arith, c.loop-end-test.false)) _
    (c.loop-end.invariant.within, refl, refl)
