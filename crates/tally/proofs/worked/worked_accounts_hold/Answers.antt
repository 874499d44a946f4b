use Rattle.tally.proofs.worked.worked_accounts_hold.Goals as goal
use Rattle.tally.proofs.AccountsWorked.{worked_accounts}

pub returns : goal.returns
returns c = worked_accounts
