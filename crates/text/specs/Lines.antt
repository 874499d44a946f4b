-- The lines of a text. Assumes nothing.
use Rattle.std.specs.Prelude.{ℕ, List, [], ◌∷◌}
use Rattle.text.specs.Pieces.{cut}

-- what stands behind the last line feed is a line only if bytes remain there
abbrev pub but_empty_end : List (List ℕ) → List (List ℕ)
but_empty_end [] = []
but_empty_end ([] ∷ []) = []
but_empty_end (piece ∷ pieces) = piece ∷ but_empty_end pieces

-- each line ends before a line feed or, if bytes remain, at the text's end
abbrev pub lines_in : (text : List ℕ) → List (List ℕ)
lines_in text = but_empty_end (cut 10 text)
