-- What the sheets of prices hold and how entries fill them. Assumes nothing.
use Rattle.std.specs.Prelude.{ℕ, Bool, if◌then◌else◌, ◌&&◌, ℤ, Some, None, Option, ◌==◌, int_le, nat_le, unsigned_abs}
use Rattle.tariff.specs.Answers.{Answer, require, ◌then◌}
use Rattle.tariff.specs.Blocks.{hours_of_day, last_day}
use Rattle.tariff.specs.Figures.{between, or_missing}
use Rattle.tariff.specs.Prices.{is_price, most_factor}
use Rattle.tariff.specs.Tables.{Tables}
use Rattle.tariff.specs.declared.blocks.Block.{Block}
use Rattle.tariff.specs.declared.blocks.Block.TheVariants.{Heavy, Light}
use Rattle.tariff.specs.declared.refusal.Refusal.TheVariants.{Day, Hour, Figure}

-- an entered price or factor is missing, or within its limits
abbrev pub price_within : Option ℤ → Bool
price_within price = or_missing is_price price

abbrev pub factor_within : Option ℤ → Bool
factor_within factor = or_missing (between 0 most_factor) factor

-- an accepted factor, as it is kept
abbrev pub factor_kept : Option ℤ → Option ℕ
factor_kept None = None
factor_kept (Some factor) = Some (unsigned_abs factor)

-- the entry of a day with its heavy and light day-ahead price: the figures in order
abbrev pub day_answer : ℤ → Option ℤ → Option ℤ → Answer
day_answer day heavy light =
    require (between 1 last_day day) (Day 1)
    then require (price_within heavy) (Figure 2)
    then require (price_within light) (Figure 3)

-- the first and the last hour of an entry, the last not below the first
abbrev pub hours_answer : ℤ → ℤ → Answer
hours_answer first last =
    require (between 1 hours_of_day first) (Hour 1)
    then require (between 1 hours_of_day last && int_le first last) (Hour 2)

-- the real-time price of an entry of hours, where it is one figure
abbrev pub price_answer : Option ℤ → Answer
price_answer price = require (price_within price) (Figure 3)

-- the entry of hours: the hours, the figures that give their real-time price, and their factor
abbrev pub hours_entry_answer : ℤ → ℤ → (prices : Answer) (position : ℕ) → Option ℤ → Answer
hours_entry_answer first last prices position factor =
    hours_answer first last then prices then require (factor_within factor) (Figure position)

-- a sheet is for one day; its tables are missing on every other
pub record Sheet : Type 0 where
  pub day : ℕ
  pub tables : Tables

abbrev pub block_price : Option ℤ → Option ℤ → Block → Option ℤ
block_price heavy light Heavy = heavy
block_price heavy light Light = light

-- a sheet on which a day's day-ahead prices stand, and no figure of an hour
abbrev pub opened : ℕ → Option ℤ → Option ℤ → Sheet
opened day heavy light =
    record {
      day = day;
      tables = record {
        day_ahead = λ d block. if d == day then block_price heavy light block else None;
        real_time = λ d hour. None;
        factor = λ d hour. None;
      };
    }

-- whether an hour is one of a day's from first to last
abbrev pub among : ℕ → ℕ → ℕ → ℕ → ℕ → Bool
among day first last d hour = d == day && (nat_le first hour && nat_le hour last)

-- the sheet after the hours from first to last of its day got a real-time price and a factor
abbrev pub filled : ℕ → ℕ → Option ℤ → Option ℕ → Sheet → Sheet
filled first last price factor sheet =
    record {
      day = sheet.day;
      tables = record {
        day_ahead = sheet.tables.day_ahead;
        real_time = λ d hour. if among sheet.day first last d hour then price else sheet.tables.real_time d hour;
        factor = λ d hour. if among sheet.day first last d hour then factor else sheet.tables.factor d hour;
      };
    }

-- what accepted entries make of a sheet
abbrev pub day_entered : ℤ → Option ℤ → Option ℤ → Sheet → Sheet
day_entered day heavy light sheet = opened (unsigned_abs day) heavy light

abbrev pub hours_entered : ℤ → ℤ → Option ℤ → Option ℤ → Sheet → Sheet
hours_entered first last price factor = filled (unsigned_abs first) (unsigned_abs last) price (factor_kept factor)
