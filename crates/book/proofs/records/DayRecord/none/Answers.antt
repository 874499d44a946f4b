use Rattle.std.proofs.lemmas.List.Elements.{All-replicate}
use Rattle.book.specs.Led.{Laid}
use Rattle.book.specs.declared.records.HourRecord.TheVariants.{Unallotted}
use Rattle.book.proofs.Blanks.{blank_hour}
use Rattle.book.proofs.records.DayRecord.none.Goals as goal

pub returns-clause-hours : goal.returns-clause-hours
returns-clause-hours c = blank_hour (Unallotted c.blank.result) c.blank.ensures.hour 24

pub returns-clause-laid : goal.returns-clause-laid
returns-clause-laid c = All-replicate Laid 24 (Unallotted c.blank.result) c.blank.ensures.laid
