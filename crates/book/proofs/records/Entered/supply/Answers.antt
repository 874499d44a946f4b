use Rattle.std.proofs.Common.{ℕ, ◌∙◌, ap}
use Rattle.tally.specs.Numbered.{total}
use Rattle.book.proofs.records.Entered.supply.Goals as goal

pub returns-clause-offered : goal.returns-clause-offered
returns-clause-offered c =
    c.total_mw-2.ensures.value ∙ ap (λ (f : ℕ → ℕ). total f c.args.parties) c.counted_offers-offers.ensures

pub returns-clause-spare : goal.returns-clause-spare
returns-clause-spare c = c.total_mw-3.ensures.value ∙ ap (λ (f : ℕ → ℕ). total f c.args.parties) c.surpluses-surpluses.ensures
