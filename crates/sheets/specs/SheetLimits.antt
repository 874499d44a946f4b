-- A sheet keeps the limits of prices and factors. Assumes nothing.
use Rattle.std.specs.Prelude.{ℕ, Bool, cond, ℤ, None, Option, ◌==◌}
use Rattle.std.proofs.lemmas.Bool.{cond_both}
use Rattle.tariff.specs.Tables.{Priced, Limited}
use Rattle.tariff.specs.declared.blocks.Block.{Block}
use Rattle.tariff.specs.declared.blocks.Block.TheVariants.{Heavy, Light}
use Rattle.sheets.specs.DaySheets.{tables_of, hour_of}
use Rattle.sheets.specs.declared.day_sheet.DaySheet.{DaySheet}

only_if : (b : Bool) (place : Option ℤ) → Priced place → Priced (cond b place None)
only_if b place h = cond_both b place None Priced (λ _. h) (λ _ price e. absurd cc)

block_priced : {Q : Type 0} (sheet : DaySheet Q) (day : ℕ) (block : Block) → Priced ((tables_of sheet).day_ahead day block)
block_priced sheet day Heavy = only_if (day == sheet.day) sheet.heavy sheet.heavy_priced
block_priced sheet day Light = only_if (day == sheet.day) sheet.light sheet.light_priced

pub sheet_limited : {Q : Type 0} (sheet : DaySheet Q) → Limited (tables_of sheet)
sheet_limited sheet =
    record {
      day_ahead = block_priced sheet;
      real_time = λ day hour. (hour_of sheet day hour).priced;
      factor = λ day hour. (hour_of sheet day hour).factored;
    }
