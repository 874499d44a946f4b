use Rattle.tally.specs.Allotment.{counted_offer}
use Rattle.book.specs.Records.{hour_of}
use Rattle.book.specs.declared.records.HourRecord.TheVariants.{Unallotted}
use Rattle.book.proofs.Filling.{Filled}
use Rattle.book.proofs.records.Entered.counted_offers.Given as goal

abbrev pub invariant-loop-place : goal.invariant-loop-place
invariant-loop-place l = Filled 0 l.offers (counted_offer (hour_of (Unallotted l.self))) l.place
