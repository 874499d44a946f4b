use Rattle.std.proofs.Common.{◌≡◌, false, ap, ap₂, sym, ◌∙◌}
use Rattle.tally.specs.Hours.{Hour}
use Rattle.tally.specs.Numbered.{total}
use Rattle.tally.specs.States.{hour_at}
use Rattle.tally.proofs.Numbering.{total_zero}
use Rattle.book.specs.Books.{state_of}
use Rattle.book.specs.Records.{hour_of, is_allotted}
use Rattle.book.proofs.Unallotted.{unheld}
use Rattle.book.proofs.book.Book.held_at.Goals as goal

pub returns-in-Allotted : goal.returns-in-Allotted
returns-in-Allotted c =
    c.total_mw.ensures.value
    ∙ ap₂ total (ap (λ (h : Hour). h.holdings) (sym (ap hour_of c.in-Allotted.is) ∙ c.hour_record.ensures.value)) c.parties.ensures.value

pub returns-in-Unallotted : goal.returns-in-Unallotted
returns-in-Unallotted c =
    let book = c.args.self.now in
    let number = c.args.hour in
    let isnt : (hour_at (state_of book) number).allotted ≡ false =
    sym (ap (λ (h : Hour). h.allotted) c.hour_record.ensures.value) ∙ ap is_allotted c.in-Unallotted.is in
    sym (total_zero (hour_at (state_of book) number).holdings book.pool.parties (λ seller _ _. unheld book number isnt seller))
