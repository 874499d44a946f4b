use Rattle.tally.proofs.laws.payments_fit.Goals as goal
use Rattle.tally.proofs.PaymentSizes.{payments_fit_lem}

pub returns : goal.returns
returns c = payments_fit_lem
