use Rattle.book.specs.Posting.{entries_in, seller_gets}
use Rattle.book.proofs.Summing.{Summed}
use Rattle.book.proofs.book.closing.netting.row_to_seller.Given as goal

abbrev pub invariant-loop-payment : goal.invariant-loop-payment
invariant-loop-payment l = Summed (λ buyer. seller_gets (entries_in l.row buyer)) 100000000000000 l.payment-index l.sum
