-- The text of a value, and the line of an entry. Assumes nothing.
use Rattle.std.specs.Prelude.{ℕ, List, [], ◌∷◌, ◌++◌, codes}
use Rattle.tariff.specs.declared.blocks.DayKind.TheVariants.{Workday, Sunday}
use Rattle.tariff.specs.declared.charges.Cover.TheVariants.{Covered, Uncovered}
use Rattle.text.specs.Figures.{figure_text}
use Rattle.lines.specs.Shapes.{letter_of, shape_of}
use Rattle.lines.specs.Values.{values_of}
use Rattle.lines.specs.declared.entry.LineEntry.{LineEntry}
use Rattle.lines.specs.declared.value.Value.{Value}
use Rattle.lines.specs.declared.value.Value.TheVariants.{Figure, Missing, Day, Cover}

abbrev pub text_of : Value → List ℕ
text_of (Figure figure) = figure_text figure
text_of Missing = codes "-"
text_of (Day Workday) = codes "W"
text_of (Day Sunday) = codes "S"
text_of (Cover Covered) = codes "C"
text_of (Cover Uncovered) = codes "N"

-- a tab (9) and a value's text, for each value
abbrev pub fields_text : List Value → List ℕ
fields_text [] = []
fields_text (value ∷ values) = 9 ∷ (text_of value ++ fields_text values)

abbrev pub line_of : LineEntry → List ℕ
line_of entry = letter_of (shape_of entry) ∷ fields_text (values_of entry)
