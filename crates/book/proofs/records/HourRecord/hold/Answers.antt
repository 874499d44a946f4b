use Rattle.std.proofs.Common.{ℕ, true, pos, ◌∙◌, sym}
use Rattle.tariff.specs.declared.charges.Cover.TheVariants.{Covered}
use Rattle.tally.specs.Pairs.{pair}
use Rattle.book.specs.Records.{at}
use Rattle.book.proofs.Blanks.{at_row}
use Rattle.book.proofs.records.HourRecord.hold.Goals as goal

pub returns-clause-laid : goal.returns-clause-laid
unfolding pair
returns-clause-laid c = λ _. c.lay.ensures

pub returns-clause-hour : goal.returns-clause-hour
returns-clause-hour c =
    let entered = c.in-Unallotted.entered in
    rw c.in-Unallotted.is
    (λ i. record {
      results = at (pos 0) entered.results;
      offers = at 0 entered.offers;
      requests = at 0 entered.requests;
      allotted = true;
      holdings = at 0 c.args.holdings;
      deployed = λ s b. (at_row {A = ℕ} 12 12 0 b s ∙ sym (at_row {A = ℕ} 0 0 0 b s)) i;
      missed = λ s b. (at_row {A = ℕ} 12 12 0 b s ∙ sym (at_row {A = ℕ} 0 0 0 b s)) i;
      cover = λ s b. (at_row 12 12 Covered b s ∙ sym (at_row 0 0 Covered b s)) i;
    })
