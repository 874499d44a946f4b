use Rattle.std.specs.Io.KnownBytes.{Appends}
use Rattle.session.specs.Replies.{balances_text}
use Rattle.session.proofs.reply.write_balances.Given as goal

abbrev pub invariant-loop-account : goal.invariant-loop-account
invariant-loop-account g l =
    Appends (g.W.Write.contents l.fn.writer) (g.W.Write.contents l.writer) (balances_text l.book l.account)
