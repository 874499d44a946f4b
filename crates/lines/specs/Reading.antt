-- What reading a line answers. Assumes nothing.
use Rattle.std.specs.Prelude.{◌≡◌, ◌≢◌, ℕ, ◌<◌, ◌≤◌, List, [], ◌∷◌, length, Ok, Err, Result}
use Rattle.tariff.specs.declared.refusal.Refusal.{Refusal}
use Rattle.tariff.specs.declared.refusal.Refusal.TheVariants.{LineTooLong, UnknownLetter, FieldCount, Misspelt}
use Rattle.text.specs.Fields.{fields_in}
use Rattle.lines.specs.Fits.{Fits, Writable}
use Rattle.lines.specs.Positions.{FirstFailing}
use Rattle.lines.specs.Shapes.{letter_of, kinds_of}
use Rattle.lines.specs.Texts.{text_of, line_of}
use Rattle.lines.specs.declared.entry.LineEntry.{LineEntry}
use Rattle.lines.specs.declared.shape.Kind.{Kind}
use Rattle.lines.specs.declared.shape.Shape.{Shape}
use Rattle.lines.specs.declared.value.Value.{Value}

-- a line whose first field is a letter alone, with these fields behind it
abbrev pub Parts : (line : List ℕ) (letter : ℕ) (fields : List (List ℕ)) → Type 0
Parts line letter fields = fields_in line ≡ (letter ∷ []) ∷ fields

-- a field of a kind that says a value
abbrev pub Says : Kind → List ℕ → Value → Type 0
Says kind field value = Fits kind value × (field ≡ text_of value)

abbrev pub Spelt : Kind → List ℕ → Type 0
Spelt kind field = (value : Value) × Says kind field value

abbrev pub Reads : List ℕ → Result LineEntry Refusal → Type 0
Reads line (Ok entry) = Writable entry × (line ≡ line_of entry)
Reads line (Err LineTooLong) = 80 < length line
Reads line (Err UnknownLetter) =
    (length line ≤ 80) × ((shape : Shape) (fields : List (List ℕ)) → ¬ Parts line (letter_of shape) fields)
-- no shape of the letter has so many fields
Reads line (Err FieldCount) =
    (length line ≤ 80)
    × ((shape : Shape) × ((fields : List (List ℕ)) × (Parts line (letter_of shape) fields
    × ((other : Shape) → letter_of other ≡ letter_of shape → length fields ≢ length (kinds_of other)))))
Reads line (Err (Misspelt position)) =
    (length line ≤ 80)
    × ((shape : Shape) × ((fields : List (List ℕ)) × (Parts line (letter_of shape) fields
    × (length fields ≡ length (kinds_of shape)) × FirstFailing Spelt (kinds_of shape) fields position)))
Reads _ (Err _) = ⊥
