use Rattle.std.proofs.Common.{◌≤◌, List, length, ap, ◌∙◌, arith}
use Rattle.book.specs.Posting.{buyer_gets, entries_in}
use Rattle.book.specs.declared.payment.Payment.{Payment}
use Rattle.book.proofs.Entries.{taken_below, taken_row, taken_entries}
use Rattle.book.proofs.Summing.{summed_none, summed_more}
use Rattle.book.proofs.book.closing.netting.table_to_buyer.Goals as goal

pub loop-row-init : goal.loop-row-init
loop-row-init c = summed_none _ _

pub entry_to_buyer-sum-requires : goal.entry_to_buyer-sum-requires
entry_to_buyer-sum-requires c =
    let few : c.args.parties ≤ length c.args.table.now = omega arith in
    taken_entries c.args.table.now c.args.parties c.loop-row.row-index few c.loop-row-test.true c.requires.small
    c.args.buyer (omega arith) c.requires.is_party

pub loop-row-preserved : goal.loop-row-preserved
loop-row-preserved c =
    let few : c.args.parties ≤ length c.args.table.now = omega arith in
    summed_more _ _ c.loop-row.row-index _ c.entry_to_buyer-sum.result
    (let below = taken_below c.args.table.now c.args.parties c.loop-row.row-index few c.loop-row-test.true in omega arith)
    (omega arith) c.loop-row.invariant
    (c.entry_to_buyer-sum.ensures.value
    ∙ ap (λ (row : List Payment). buyer_gets (entries_in row c.args.buyer))
    (taken_row c.args.table.now c.args.parties c.loop-row.row-index few c.loop-row-test.true))
    c.entry_to_buyer-sum.ensures.size
