use Rattle.std.proofs.Common.{◌≡◌, suc, length, get_or}
use Rattle.tally.specs.MakeWhole.{make_whole_claims}
use Rattle.book.specs.Books.{state_of}
use Rattle.book.specs.Sharing.{Divisions}
use Rattle.book.proofs.book.Book.share.Given as goal

abbrev pub invariant-loop-place : goal.invariant-loop-place
invariant-loop-place g l = record {
  places : length l.rows ≡ 12;
  divided : Divisions g.R.DivisionRule.LIMIT g.R.DivisionRule.moves (λ seller. get_or l.amounts seller 0)
      (λ seller. make_whole_claims (state_of l.self) l.hours.block (suc seller)) l.self.pool.parties
      l.place (g.R.DivisionRule.meaning l.fn.rule) l.rows (g.R.DivisionRule.meaning l.rule);
}
