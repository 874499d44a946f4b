-- The fields of a line, which one tab parts from each other. Assumes nothing.
use Rattle.std.specs.Prelude.{◌≡◌, ℕ, ◌-◌, ◌<◌, ◌≤◌, ◌⊎◌, List, [], ◌∷◌, length, take, drop, ◌≢◌, slice_index}
use Rattle.text.specs.Pieces.{cut_from}
use Rattle.text.specs.declared.fields.Field.{Field}
use Rattle.text.specs.declared.fields.Field.TheVariants.{Figure, Mark, Hyphen}
use Rattle.text.specs.declared.fields.Fields.{Fields}

-- the fields of a line, from a place on
abbrev pub fields_from : (line : List ℕ) (place : ℕ) → List (List ℕ)
fields_from line place = cut_from 9 line place

abbrev pub fields_in : (line : List ℕ) → List (List ℕ)
fields_in line = fields_from line 0

-- the fields that are still to come
abbrev pub fields_left : Fields → List (List ℕ)
fields_left fields = fields_from fields.line.now fields.place

abbrev pub bytes_of : Field → List ℕ
bytes_of (Figure bytes) = bytes.now
bytes_of (Mark bytes) = bytes.now
bytes_of (Hyphen bytes) = bytes.now

-- bytes that begin as a figure does: with a hyphen or a digit
abbrev pub Begins : List ℕ → Type 0
Begins bytes =
    (0 < length bytes) × ((slice_index bytes 0 ≡ 45) ⊎ ((48 ≤ slice_index bytes 0) × (slice_index bytes 0 ≤ 57)))

-- a field is sorted by its bytes
abbrev pub Sorted : Field → Type 0
Sorted (Figure bytes) = (bytes.now ≢ 45 ∷ []) × Begins bytes.now
Sorted (Mark bytes) = ¬ Begins bytes.now
Sorted (Hyphen bytes) = bytes.now ≡ 45 ∷ []

-- the field between two steps is the part of the line from the first place up to the byte before the second
abbrev pub PartOf : (old new : Fields) → Field → Type 0
PartOf old new field =
    (new.line ≡ old.line) × (bytes_of field ≡ take (new.place - 1 - old.place) (drop old.place old.line.now))
