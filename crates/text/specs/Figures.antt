-- A figure as text: `0`, or an optional hyphen and 1 to 12 decimal digits without a leading 0. Assumes nothing.
use Rattle.std.specs.Prelude.{◌≡◌, ℕ, ◌^◌, ◌<◌, List, ℤ, Some, None, decimal, Option, ◌≢◌, unsigned_abs}
use Rattle.std.specs.Fmt.{signed_decimal}

-- the figures that text can hold
abbrev pub Short : ℤ → Type 0
Short value = unsigned_abs value < 10 ^ 12

-- the text of a figure: the hyphen of a negative one, then the digits of its size
abbrev pub figure_text : ℤ → List ℕ
figure_text value = signed_decimal value

-- bytes that are the digits of a size below 10 ^ 12, or of none
abbrev pub ReadsSize : List ℕ → Option ℕ → Type 0
ReadsSize bytes (Some size) = (size < 10 ^ 12) × (bytes ≡ decimal size)
ReadsSize bytes None = (size : ℕ) → size < 10 ^ 12 → bytes ≢ decimal size

-- bytes that are the text of a figure, or of none
abbrev pub ReadsFigure : List ℕ → Option ℤ → Type 0
ReadsFigure bytes (Some value) = Short value × (bytes ≡ figure_text value)
ReadsFigure bytes None = (value : ℤ) → Short value → bytes ≢ figure_text value
