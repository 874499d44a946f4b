use Rattle.tally.proofs.laws.accounts_balance.Goals as goal
use Rattle.tally.proofs.Accounts.{accounts_balance_always}

pub returns : goal.returns
returns c = accounts_balance_always
