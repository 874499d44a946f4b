-- Bytes cut into pieces, which a byte `stop` parts from each other. Assumes nothing.
use Rattle.std.specs.Prelude.{ℕ, zero, suc, if◌then◌else◌, List, [], ◌∷◌, ◌==◌}

-- a byte put before the first of some pieces, or alone
abbrev pub onto : ℕ → List (List ℕ) → List (List ℕ)
onto byte [] = (byte ∷ []) ∷ []
onto byte (piece ∷ pieces) = (byte ∷ piece) ∷ pieces

-- the pieces of bytes: there is always a last one, which may be empty
abbrev pub cut : (stop : ℕ) → List ℕ → List (List ℕ)
cut stop [] = [] ∷ []
cut stop (byte ∷ bytes) = if byte == stop then [] ∷ cut stop bytes else onto byte (cut stop bytes)

-- the same from a place on, and nothing from a place past the end
abbrev pub cut_from : (stop : ℕ) → List ℕ → (place : ℕ) → List (List ℕ)
cut_from stop bytes zero = cut stop bytes
cut_from stop [] (suc place) = []
cut_from stop (byte ∷ bytes) (suc place) = cut_from stop bytes place

-- where the first `stop` at or after a place stands, or else where the bytes end
abbrev pub end_in : (stop : ℕ) → List ℕ → (place : ℕ) → ℕ
end_in stop [] place = 0
end_in stop (byte ∷ bytes) zero = if byte == stop then 0 else suc (end_in stop bytes zero)
end_in stop (byte ∷ bytes) (suc place) = suc (end_in stop bytes place)
