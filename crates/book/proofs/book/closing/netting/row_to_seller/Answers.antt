use Rattle.std.proofs.Common.{◌≤◌, length, ap, ◌∙◌, arith}
use Rattle.book.specs.Posting.{seller_gets}
use Rattle.book.proofs.Entries.{taken_below, taken_entry, taken_small}
use Rattle.book.proofs.Summing.{summed_none, summed_more}
use Rattle.book.proofs.book.closing.netting.row_to_seller.Goals as goal

pub loop-payment-init : goal.loop-payment-init
loop-payment-init c = summed_none _ _

pub seller_gets-sum-requires : goal.seller_gets-sum-requires
seller_gets-sum-requires c =
    let few : c.args.parties ≤ length c.args.row.now = omega arith in
    taken_small c.args.row.now c.args.parties c.loop-payment.payment-index _ few c.loop-payment-test.true c.requires.small

pub loop-payment-preserved : goal.loop-payment-preserved
loop-payment-preserved c =
    let few : c.args.parties ≤ length c.args.row.now = omega arith in
    summed_more _ _ c.loop-payment.payment-index _ c.seller_gets-sum.result
    (let below = taken_below c.args.row.now c.args.parties c.loop-payment.payment-index few c.loop-payment-test.true in omega arith)
    (omega arith) c.loop-payment.invariant
    (c.seller_gets-sum.ensures.value ∙ ap seller_gets
    (taken_entry c.args.row.now c.args.parties c.loop-payment.payment-index _ few c.loop-payment-test.true))
    c.seller_gets-sum.ensures.size
