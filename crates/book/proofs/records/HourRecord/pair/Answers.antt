use Rattle.std.proofs.Common.{◌≡◌, arith}
use Rattle.tally.proofs.Overlaps.{pair_within}
use Rattle.book.specs.Records.{hour_of}
use Rattle.book.proofs.Blanks.{at_same}
use Rattle.book.proofs.records.HourRecord.pair.Goals as goal

pub returns-in-Unallotted : goal.returns-in-Unallotted
returns-in-Unallotted c =
    let hour = hour_of c.args.self.now in
    let none : hour.holdings c.args.seller ≡ 0 = rw c.in-Unallotted.is (at_same 0 0 c.args.seller) in
    omega (arith, pair_within hour c.args.seller c.args.buyer)
