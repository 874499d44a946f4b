use Rattle.book.proofs.records.HourRecord.admit.Goals as goal

pub returns-in-Unallotted-Allot : goal.returns-in-Unallotted-Allot
returns-in-Unallotted-Allot c = rw (c.in-Unallotted-Allot.is-0, c.in-Unallotted-Allot.is-1) c.admit_allot.ensures
