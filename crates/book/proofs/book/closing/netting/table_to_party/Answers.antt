use Rattle.std.proofs.Common.{◌≡◌, suc, ap₂, ◌∙◌, ◌+ℤ◌, arith}
use Rattle.tally.specs.Numbered.{total_z}
use Rattle.book.specs.Payments.{payments_in}
use Rattle.book.specs.Posting.{seller_gets}
use Rattle.book.proofs.Summing.{added}
use Rattle.book.proofs.book.closing.netting.table_to_party.Goals as goal

pub row_to_seller-requires-clause-small : goal.row_to_seller-requires-clause-small
row_to_seller-requires-clause-small c = c.requires.small (suc c.place.result) (omega arith) (omega arith)

pub returns-clause-value : goal.returns-clause-value
returns-clause-value c =
    let sold : c.row_to_seller.result ≡ total_z (λ buyer. seller_gets (payments_in c.args.table.now c.args.party buyer)) c.args.parties =
    rw (← c.place.ensures.value) c.row_to_seller.ensures.value in
    added c.row_to_seller.result c.table_to_buyer.result (omega arith) (omega arith)
    ∙ ap₂ ◌+ℤ◌ sold c.table_to_buyer.ensures.value
