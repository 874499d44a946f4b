use Rattle.book.specs.Records.{at}
use Rattle.book.proofs.Years.{CountedTo}
use Rattle.book.proofs.book.Book.closed_year.Given as goal

abbrev pub invariant-loop-place : goal.invariant-loop-place
invariant-loop-place l = CountedTo l.self (at 0 l.charges) l.place l.year
