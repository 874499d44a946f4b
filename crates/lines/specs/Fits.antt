-- Which values a field of a kind can have, and which entries a line can say. Assumes nothing.
use Rattle.std.specs.Prelude.{List, [], ◌∷◌}
use Rattle.text.specs.Figures.{Short}
use Rattle.lines.specs.Shapes.{kinds_of, shape_of}
use Rattle.lines.specs.Values.{values_of}
use Rattle.lines.specs.declared.entry.LineEntry.{LineEntry}
use Rattle.lines.specs.declared.shape.Kind.{Kind}
use Rattle.lines.specs.declared.shape.Kind.TheVariants as kind
use Rattle.lines.specs.declared.value.Value.{Value}
use Rattle.lines.specs.declared.value.Value.TheVariants.{Figure, Missing, Day, Cover}

abbrev pub Fits : Kind → Value → Type 0
Fits kind.Figure (Figure figure) = Short figure
Fits kind.Price (Figure figure) = Short figure
Fits kind.Price Missing = Unit {0}
Fits kind.Day (Day day) = Unit {0}
Fits kind.Cover (Cover cover) = Unit {0}
Fits _ _ = ⊥

-- as many values as kinds, each fitting its own
abbrev pub FitAll : List Kind → List Value → Type 0
FitAll [] [] = Unit {0}
FitAll (kind ∷ kinds) (value ∷ values) = Fits kind value × FitAll kinds values
FitAll _ _ = ⊥

-- an entry that a line can say
abbrev pub Writable : LineEntry → Type 0
Writable entry = FitAll (kinds_of (shape_of entry)) (values_of entry)
