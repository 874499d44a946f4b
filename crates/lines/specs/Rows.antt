-- What the values of a row stand for. Assumes nothing.
use Rattle.std.specs.Prelude.{◌≡◌, ℕ, List, map, length, take, ℤ, pos, Some, None, Option}
use Rattle.tariff.specs.declared.blocks.DayKind.{DayKind}
use Rattle.tariff.specs.declared.blocks.DayKind.TheVariants.{Workday}
use Rattle.tariff.specs.declared.charges.Cover.{Cover}
use Rattle.tariff.specs.declared.charges.Cover.TheVariants.{Covered}
use Rattle.lines.specs.Fits.{FitAll}
use Rattle.lines.specs.Shapes.{kinds_of}
use Rattle.lines.specs.Texts.{text_of}
use Rattle.lines.specs.declared.row.Row.{Row}
use Rattle.lines.specs.declared.shape.Shape.{Shape}
use Rattle.lines.specs.declared.value.Value.{Value}
use Rattle.lines.specs.declared.value.Value.TheVariants as value

-- as many as its shape has kinds
abbrev pub values_in : Row → List Value
values_in row = take (length (kinds_of row.shape)) row.values

-- a row of a shape whose values fit their kinds and have these texts
abbrev pub IsSpelt : Shape → (fields : List (List ℕ)) → Row → Type 0
IsSpelt shape fields row =
    (row.shape ≡ shape) × FitAll (kinds_of row.shape) (values_in row) × (fields ≡ map text_of (values_in row))

abbrev pub figure_in : Value → ℤ
figure_in (value.Figure figure) = figure
figure_in _ = pos 0

abbrev pub price_in : Value → Option ℤ
price_in (value.Figure figure) = Some figure
price_in _ = None

abbrev pub day_in : Value → DayKind
day_in (value.Day kind) = kind
day_in _ = Workday

abbrev pub cover_in : Value → Cover
cover_in (value.Cover cover) = cover
cover_in _ = Covered
