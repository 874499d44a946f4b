use Rattle.book.specs.Payments.{payments_in}
use Rattle.book.specs.Posting.{buyer_gets}
use Rattle.book.proofs.Summing.{Summed}
use Rattle.book.proofs.book.closing.netting.table_to_buyer.Given as goal

abbrev pub invariant-loop-row : goal.invariant-loop-row
invariant-loop-row l = Summed (λ seller. buyer_gets (payments_in l.table seller l.buyer)) 100000000000000 l.row-index l.sum
