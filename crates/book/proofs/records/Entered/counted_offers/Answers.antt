use Rattle.std.proofs.Common.{◌≡◌, length, refl, rules, arith}
use Rattle.std.proofs.lemmas.List.{get_or_past}
use Rattle.tally.specs.Allotment.{counted_offer}
use Rattle.book.specs.Records.{hour_of}
use Rattle.book.specs.declared.records.HourRecord.TheVariants.{Unallotted}
use Rattle.book.proofs.Filling.{filled_more, filled_all}
use Rattle.book.proofs.records.Entered.counted_offers.Goals as goal

pub loop-place-preserved : goal.loop-place-preserved
loop-place-preserved c =
    filled_more 0 c.loop-place.offers (counted_offer (hour_of (Unallotted c.args.self.now))) c.loop-place.place _
    c.loop-place-test.true c.loop-place.invariant (rw c.at.ensures at c.counted_offer.ensures)

pub returns : goal.returns
returns c =
    let requests : length c.args.self.now.requests ≡ 12 = search rules in
    let offers : length c.args.self.now.offers ≡ 12 = search rules in
    filled_all 0 c.loop-place.offers (counted_offer (hour_of (Unallotted c.args.self.now))) c.loop-place.place c.loop-place-test.false
    c.loop-place.invariant refl
    (λ k l.
    let no_request = get_or_past c.args.self.now.requests k 0 (omega arith) in
    let no_offer = get_or_past c.args.self.now.offers k 0 (omega arith) in
    rw (no_request, no_offer) refl)
