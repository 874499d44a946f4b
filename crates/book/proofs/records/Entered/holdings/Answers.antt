use Rattle.std.proofs.Common.{sym, ◌∙◌, arith}
use Rattle.book.specs.Records.{at, unallotted}
use Rattle.book.proofs.Blanks.{at_same}
use Rattle.book.proofs.Portions.{held_none, held_divided}
use Rattle.book.proofs.Supplies.{whole_small}
use Rattle.book.proofs.records.Entered.holdings.Goals as goal

pub returns-then-total-eq0-clause-value : goal.returns-then-total-eq0-clause-value
returns-then-total-eq0-clause-value g c =
    held_none c.args.parties (unallotted c.args.self.now) (g.R.DivisionRule.meaning c.args.rule.now) _
    (at_same 12 0) (sym c.if-total-eq0.true ∙ c.portion-total.ensures.total)

pub sums-requires : goal.sums-requires
sums-requires g c = λ party.
    omega (
      arith,
      whole_small c.args.parties (unallotted c.args.self.now) c.requires.few c.requires.small _ c.portion-total.ensures.whole party,
      c.in_ok-shares.ensures.within party,
      c.portion-total.ensures.small,
    )

pub returns-clause-value : goal.returns-clause-value
returns-clause-value g c =
    let portion = c.portion-total.ensures in
    held_divided c.args.parties (unallotted c.args.self.now) (g.R.DivisionRule.meaning c.args.rule.now) _
    (at 0 c.portion-total.result.whole) (at 0 c.in_ok-shares.shares) c.portion-total.result.total _ (omega arith) portion.total
    portion.claims portion.whole c.in_ok-shares.ensures.shares c.sums.ensures
