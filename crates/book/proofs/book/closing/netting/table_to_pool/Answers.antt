use Rattle.std.proofs.Common.{◌≤◌, List, length, ap, ◌∙◌, arith}
use Rattle.tally.specs.Numbered.{total_z}
use Rattle.book.specs.Posting.{entries_in}
use Rattle.book.specs.declared.payment.Payment.{Payment}
use Rattle.book.proofs.Entries.{taken_below, taken_row, taken_entries}
use Rattle.book.proofs.Summing.{summed_none, summed_more}
use Rattle.book.proofs.book.closing.netting.table_to_pool.Goals as goal

pub loop-row-init : goal.loop-row-init
loop-row-init c = summed_none _ _

pub row_to_pool-sum-requires : goal.row_to_pool-sum-requires
row_to_pool-sum-requires c =
    let few : c.args.parties ≤ length c.args.table.now = omega arith in
    record {
      few = c.requires.few;
      small = taken_entries c.args.table.now c.args.parties c.loop-row.row-index few c.loop-row-test.true c.requires.small;
    }

pub loop-row-preserved : goal.loop-row-preserved
loop-row-preserved c =
    let few : c.args.parties ≤ length c.args.table.now = omega arith in
    summed_more _ _ c.loop-row.row-index _ c.row_to_pool-sum.result
    (let below = taken_below c.args.table.now c.args.parties c.loop-row.row-index few c.loop-row-test.true in omega arith)
    (omega arith) c.loop-row.invariant
    (c.row_to_pool-sum.ensures.value
    ∙ ap (λ (row : List Payment). total_z (λ buyer. (entries_in row buyer).to_pool) c.args.parties)
    (taken_row c.args.table.now c.args.parties c.loop-row.row-index few c.loop-row-test.true))
    c.row_to_pool-sum.ensures.size
