use Rattle.std.proofs.Common.{ap, replicate}
use Rattle.sheets.proofs.Filled.{sheet_opened}
use Rattle.sheets.proofs.day_sheet.DaySheet.of_day.Goals as goal

pub returns : goal.returns
returns g c =
    let limits = c.requires in
    sheet_opened {Q = g.row.Q.Denot}
    (record { day = _; heavy = _; light = _; hours = _; entered = _; heavy_priced = limits.heavy; light_priced = limits.light })
    (ap (replicate 24) c.missing.ensures)
