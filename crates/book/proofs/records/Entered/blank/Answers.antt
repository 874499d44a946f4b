use Rattle.std.proofs.Common.{ℕ, false, pos}
use Rattle.tariff.specs.declared.charges.Cover.TheVariants.{Covered}
use Rattle.book.proofs.Blanks.{at_same, at_row}
use Rattle.book.proofs.records.Entered.blank.Goals as goal

pub returns-clause-hour : goal.returns-clause-hour
returns-clause-hour c = λ i. record {
  results = λ p. at_same 12 (pos 0) p i;
  offers = λ p. at_same {A = ℕ} 12 0 p i;
  requests = λ p. at_same {A = ℕ} 12 0 p i;
  allotted = false;
  holdings = λ p. at_same {A = ℕ} 0 0 p i;
  deployed = λ s b. at_row {A = ℕ} 0 0 0 b s i;
  missed = λ s b. at_row {A = ℕ} 0 0 0 b s i;
  cover = λ s b. at_row 0 0 Covered b s i;
}
