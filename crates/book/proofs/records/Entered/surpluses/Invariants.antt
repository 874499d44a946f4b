use Rattle.tally.specs.Allotment.{surplus}
use Rattle.book.specs.Records.{hour_of}
use Rattle.book.specs.declared.records.HourRecord.TheVariants.{Unallotted}
use Rattle.book.proofs.Filling.{Filled}
use Rattle.book.proofs.records.Entered.surpluses.Given as goal

abbrev pub invariant-loop-place : goal.invariant-loop-place
invariant-loop-place l = Filled 0 l.surpluses (surplus (hour_of (Unallotted l.self))) l.place
