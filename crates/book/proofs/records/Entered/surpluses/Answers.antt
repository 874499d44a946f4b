use Rattle.std.proofs.Common.{◌≡◌, length, refl, pos, rules, arith}
use Rattle.std.proofs.lemmas.List.{get_or_past}
use Rattle.tally.specs.Allotment.{surplus}
use Rattle.book.specs.Records.{hour_of}
use Rattle.book.specs.declared.records.HourRecord.TheVariants.{Unallotted}
use Rattle.book.proofs.Filling.{filled_more, filled_all}
use Rattle.book.proofs.records.Entered.surpluses.Goals as goal

pub loop-place-preserved : goal.loop-place-preserved
loop-place-preserved c =
    filled_more 0 c.loop-place.surpluses (surplus (hour_of (Unallotted c.args.self.now))) c.loop-place.place _
    c.loop-place-test.true c.loop-place.invariant (rw c.at.ensures at c.surplus.ensures)

pub returns : goal.returns
returns c =
    let results : length c.args.self.now.results ≡ 12 = search rules in
    filled_all 0 c.loop-place.surpluses (surplus (hour_of (Unallotted c.args.self.now))) c.loop-place.place c.loop-place-test.false
    c.loop-place.invariant refl
    (λ k l. let none = get_or_past c.args.self.now.results k (pos 0) (omega arith) in rw none refl)
