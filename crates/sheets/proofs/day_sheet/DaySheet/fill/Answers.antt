use Rattle.std.proofs.Common.{rules}
use Rattle.sheets.proofs.Filled.{sheet_filled}
use Rattle.sheets.proofs.day_sheet.DaySheet.fill.Goals as goal

pub returns : goal.returns
returns g c =
    let hours = c.args.hours in
    sheet_filled c.args.self.now hours.first hours.last c.fill.new.self c.args.hour hours.low hours.order hours.high (search rules)
    (c.fill.ensures.after (λ y h. search rules))
