use Rattle.session.proofs.Answering.{answered_line}
use Rattle.session.proofs.serving.answer.Goals as goal

pub returns : goal.returns
returns g c = answered_line _ _ c.args.line.now _ _ _ _ c.take-taken.ensures c.reply.ensures
