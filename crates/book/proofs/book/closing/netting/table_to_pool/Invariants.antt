use Rattle.tally.specs.Numbered.{total_z}
use Rattle.book.specs.Payments.{payments_in}
use Rattle.book.proofs.Summing.{Summed}
use Rattle.book.proofs.book.closing.netting.table_to_pool.Given as goal

abbrev pub invariant-loop-row : goal.invariant-loop-row
invariant-loop-row l =
    Summed (λ seller. total_z (λ buyer. (payments_in l.table seller buyer).to_pool) l.parties) 240000000000000 l.row-index l.sum
