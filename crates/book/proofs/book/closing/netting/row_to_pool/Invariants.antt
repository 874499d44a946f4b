use Rattle.book.specs.Posting.{entries_in}
use Rattle.book.proofs.Summing.{Summed}
use Rattle.book.proofs.book.closing.netting.row_to_pool.Given as goal

abbrev pub invariant-loop-payment : goal.invariant-loop-payment
invariant-loop-payment l = Summed (λ buyer. (entries_in l.row buyer).to_pool) 20000000000000 l.payment-index l.sum
