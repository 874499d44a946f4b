use Rattle.std.proofs.Common.{add-one}
use Rattle.std.proofs.KnownBytes.{Appends-nil, Appends-trans}
use Rattle.session.proofs.reply.write_balances.Goals as goal

pub loop-account-init : goal.loop-account-init
loop-account-init g c = Appends-nil _

pub loop-account-preserved : goal.loop-account-preserved
loop-account-preserved g c = rw add-one (Appends-trans _ _ _ _ _ c.loop-account.invariant c.in_ok-write_balance.ensures)
