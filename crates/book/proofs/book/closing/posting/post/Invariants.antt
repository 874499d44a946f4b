use Rattle.tally.specs.Statements.{net}
use Rattle.book.specs.Payments.{statement_in}
use Rattle.book.proofs.Posting.{Posted}
use Rattle.book.proofs.book.closing.posting.post.Given as goal

abbrev pub invariant-loop-account : goal.invariant-loop-account
invariant-loop-account l = Posted l.initial.balances (net l.parties (statement_in l.heavy l.light)) l.account l.balances
