use Rattle.std.proofs.Common.{rules, arith}
use Rattle.book.proofs.Posting.{posted_none, post_fits, posted_more}
use Rattle.book.proofs.book.closing.posting.post.Goals as goal

pub loop-account-init : goal.loop-account-init
loop-account-init c = posted_none _ _ (search rules)

pub overflow_add-balances : goal.overflow_add-balances
overflow_add-balances c =
    post_fits _ _ c.loop-account.account c.loop-account.balances c.net.result (omega arith) c.loop-account.invariant
    c.net.ensures.value c.net.ensures.size (c.requires.fits c.loop-account.account c.loop-account-test.true)

pub loop-account-preserved : goal.loop-account-preserved
loop-account-preserved c =
    posted_more _ _ c.loop-account.account c.loop-account.balances c.net.result (omega arith) c.loop-account.invariant
    c.net.ensures.value c.net.ensures.size (c.requires.fits c.loop-account.account c.loop-account-test.true)

pub returns-2-clause-posted : goal.returns-2-clause-posted
returns-2-clause-posted c = λ account l.
    (posted_more _ _ c.loop-account.account c.loop-account.balances c.net.result (omega arith) c.loop-account.invariant
    c.net.ensures.value c.net.ensures.size (c.requires.fits c.loop-account.account c.loop-account-test.true)).posted account (omega arith)
