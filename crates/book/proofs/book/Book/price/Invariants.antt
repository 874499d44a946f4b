use Rattle.book.specs.Books.{state_of}
use Rattle.book.proofs.Gathering.{Gathered}
use Rattle.book.proofs.book.Book.price.Given as goal

abbrev pub invariant-loop-place : goal.invariant-loop-place
invariant-loop-place g l = Gathered (state_of l.self) (g.S.PriceSource.tables l.source) l.place l.real_time l.factors
