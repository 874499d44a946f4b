use Rattle.std.proofs.Common.{rules}
use Rattle.sessions.proofs.judging.answers_to.Goals as goal

pub returns-in-Ok : goal.returns-in-Ok
returns-in-Ok c = record {
  start = c.new-session.result;
  left = c.serve.new.session;
  fresh = c.new-session.ensures;
  answered = search rules;
}
