use Rattle.std.proofs.Common.{arith}
use Rattle.book.specs.Records.{unallotted}
use Rattle.book.proofs.Portions.{offers_claimed, surpluses_claimed, offers_whole}
use Rattle.book.proofs.Supplies.{requested_small}
use Rattle.book.proofs.records.Entered.portion.Goals as goal

pub overflow_cast-result : goal.overflow_cast-result
overflow_cast-result c =
    omega (arith, requested_small c.args.parties (unallotted c.args.self.now) c.requires.few c.requires.small)

pub overflow_cast-result-else-requested-offered : goal.overflow_cast-result-else-requested-offered
overflow_cast-result-else-requested-offered c =
    omega (arith, requested_small c.args.parties (unallotted c.args.self.now) c.requires.few c.requires.small)

pub returns-then-requested-offered-clause-claims : goal.returns-then-requested-offered-clause-claims
returns-then-requested-offered-clause-claims c =
    let supply = c.supply-requested.ensures in
    offers_claimed c.args.parties (unallotted c.args.self.now) _ _
    supply.requested supply.offered _ supply.offers c.if-requested-offered.true

pub returns-else-requested-offered-clause-claims : goal.returns-else-requested-offered-clause-claims
returns-else-requested-offered-clause-claims c =
    let supply = c.supply-requested.ensures in
    surpluses_claimed c.args.parties (unallotted c.args.self.now) _ _
    supply.requested supply.offered _ supply.surpluses c.if-requested-offered.false

pub returns-else-requested-offered-clause-whole : goal.returns-else-requested-offered-clause-whole
returns-else-requested-offered-clause-whole c =
    let supply = c.supply-requested.ensures in
    offers_whole c.args.parties (unallotted c.args.self.now) _ _
    supply.requested supply.offered _ supply.offers c.if-requested-offered.false

pub returns-then-requested-offered-clause-small : goal.returns-then-requested-offered-clause-small
returns-then-requested-offered-clause-small c =
    omega (arith, requested_small c.args.parties (unallotted c.args.self.now) c.requires.few c.requires.small)

pub returns-else-requested-offered-clause-small : goal.returns-else-requested-offered-clause-small
returns-else-requested-offered-clause-small c =
    omega (arith, requested_small c.args.parties (unallotted c.args.self.now) c.requires.few c.requires.small)
