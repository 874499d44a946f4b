-- What a sheet holds. Assumes nothing.
use Rattle.std.specs.Prelude.{ℕ, ◌-◌, if◌then◌else◌, ◌&&◌, None, ◌==◌, slice_index_or}
use Rattle.tariff.specs.Blocks.{is_hour}
use Rattle.tariff.specs.Tables.{Tables, Priced, Factored}
use Rattle.sheets.specs.Sheets.{Sheet, block_price}
use Rattle.sheets.specs.declared.day_sheet.DaySheet.{DaySheet}
use Rattle.sheets.specs.declared.day_sheet.Hour.{Hour}

pub no_price : Priced None
no_price price e = absurd cc

pub no_factor : Factored None
no_factor factor e = absurd cc

-- an hour that has no figure
abbrev pub missing : Hour
missing = record { real_time = None; factor = None; priced = no_price; factored = no_factor }

-- what stands for an hour of a day; other days, and hours outside the day, have no figure
abbrev pub hour_of : {Q : Type 0} → DaySheet Q → ℕ → ℕ → Hour
hour_of sheet day hour = if day == sheet.day && is_hour hour then slice_index_or sheet.hours (hour - 1) missing else missing

-- the sheet's own day has the figures that stand on it, every other day is missing
abbrev pub sheet_of : {Q : Type 0} → DaySheet Q → Sheet
sheet_of sheet =
    record {
      day = sheet.day;
      tables = record {
        day_ahead = λ day block. if day == sheet.day then block_price sheet.heavy sheet.light block else None;
        real_time = λ day hour. (hour_of sheet day hour).real_time;
        factor = λ day hour. (hour_of sheet day hour).factor;
      };
    }

-- what it means as a source of prices
abbrev pub tables_of : {Q : Type 0} → DaySheet Q → Tables
tables_of sheet = (sheet_of sheet).tables
