use Rattle.std.proofs.Common.{ℕ}
use Rattle.book.proofs.Blanks.{at_same, at_row}
use Rattle.book.proofs.records.YearRecord.fresh.Goals as goal

pub returns : goal.returns
returns c = λ i. record {
  month = 0;
  failure_days = λ p. at_same {A = ℕ} 12 0 p i;
  misses = λ s m. at_row {A = ℕ} 12 12 0 s m i;
  charges = λ p. at_same {A = ℕ} 12 0 p i;
}
