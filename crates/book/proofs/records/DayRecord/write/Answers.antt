use Rattle.std.proofs.Common.{◌<◌, length, refl, rules}
use Rattle.std.proofs.lemmas.List.Elements.{All-set}
use Rattle.book.specs.HourEntries.{written}
use Rattle.book.specs.Led.{Laid}
use Rattle.book.specs.Records.{at}
use Rattle.book.proofs.Placing.{hour_entered}
use Rattle.book.proofs.records.DayRecord.write.Goals as goal

pub returns : goal.returns
returns c =
    let place = c.place.result in
    let l : place < length c.args.self.now.hours = search rules in
    rw (← c.place.ensures.value)
    (record {
      hours = hour_entered c.args.self.now.hours place _ _ (written c.args.entry (at 0 c.args.parts.now)) l c.write.ensures.hour;
      rest = refl;
      laid = λ laid. All-set Laid c.args.self.now.hours place _ (c.write.ensures.laid (laid place _ l)) laid;
    })
