-- The worked accounts follow from the definitions. Assumes nothing.
use Rattle.std.proofs.Common.{refl, arith}
use Rattle.tally.specs.WorkedAccounts.{WorkedAccounts}
use Rattle.tally.proofs.Figures.{figures}

pub worked_accounts : WorkedAccounts
unfolding figures
worked_accounts = record {
  set_up = refl;
  first_party = omega arith;
  last_party = omega arith;
  first_turn = refl;
  second_turn = refl;
  not_divided = refl;
  light_turn = refl;
  second_light_turn = refl;
  largest_claim = refl;
  two_claims = refl;
  paid = refl;
  taken = refl;
  nets = refl;
  dues = refl;
  charged = refl;
  unclosed_year = refl;
  closed_year = refl;
  started_year = refl;
  closed_filed = refl;
  started_filed = refl;
  closed_shut = refl;
  voided_shut = refl;
  voided_number = refl;
  voided_year = refl;
  voided_filed = refl;
  denied_year = refl;
  denied_filed = refl;
}
