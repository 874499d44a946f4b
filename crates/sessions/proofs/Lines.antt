-- The lines of a text, counted byte by byte.
use Rattle.std.proofs.Common.{◌≡◌, ℕ, suc, ◌+◌, ◌<◌, List, [], ◌∷◌, length, get_or, drop, Bool, true, false, refl, ap}
use Rattle.std.proofs.Common.{inl, inr, add-one, drop-cons, arith}
use Rattle.std.proofs.lemmas.Bool.{cases_eq, eq-eqb, ne_eqb}
use Rattle.text.specs.Lines.{but_empty_end, lines_in}
use Rattle.text.specs.Pieces.{onto, cut}

-- how many lines end in what is left of a text, where a line may have begun before it
abbrev pub lines_left : (goes_on : Bool) → List ℕ → ℕ
lines_left false bytes = length (lines_in bytes)
lines_left true bytes = length (but_empty_end (onto 0 (cut 10 bytes)))

-- it does not matter which byte a line begins with, nor how many
one_begun : (byte : ℕ) (pieces : List (List ℕ))
    → length (but_empty_end (onto byte pieces)) ≡ length (but_empty_end (onto 0 pieces))
one_begun byte [] = refl
one_begun byte (piece ∷ pieces) = refl

two_begun : (byte : ℕ) (pieces : List (List ℕ))
    → length (but_empty_end (onto 0 (onto byte pieces))) ≡ length (but_empty_end (onto 0 pieces))
two_begun byte [] = refl
two_begun byte (piece ∷ pieces) = refl

-- an empty piece is a line if another piece follows it
empty_line : (byte : ℕ) (pieces : List (List ℕ))
    → but_empty_end ([] ∷ onto byte pieces) ≡ [] ∷ but_empty_end (onto byte pieces)
empty_line byte [] = refl
empty_line byte (piece ∷ pieces) = refl

empty_line_cut : (bytes : List ℕ) → but_empty_end ([] ∷ cut 10 bytes) ≡ [] ∷ but_empty_end (cut 10 bytes)
empty_line_cut [] = refl
empty_line_cut (byte ∷ bytes) =
    elim (cases_eq byte 10) [
      | inl e ↦ rw (eq-eqb byte 10 e) refl
      | inr e ↦ rw (ne_eqb byte 10 e) (empty_line byte (cut 10 bytes))
    ]

-- a line feed ends a line
pub at_feed : (goes_on : Bool) (byte : ℕ) (bytes : List ℕ) → byte ≡ 10
    → lines_left goes_on (byte ∷ bytes) ≡ suc (lines_left false bytes)
at_feed false byte bytes e = rw (eq-eqb byte 10 e) (ap length (empty_line_cut bytes))
at_feed true byte bytes e = rw (eq-eqb byte 10 e) refl

-- any other byte is part of one
pub at_other : (goes_on : Bool) (byte : ℕ) (bytes : List ℕ) → (byte ≡ 10 → ⊥)
    → lines_left goes_on (byte ∷ bytes) ≡ lines_left true bytes
at_other false byte bytes ne = rw (ne_eqb byte 10 ne) (one_begun byte (cut 10 bytes))
at_other true byte bytes ne = rw (ne_eqb byte 10 ne) (two_begun byte (cut 10 bytes))

-- one byte more
module _ (text : List ℕ) (place ended : ℕ) (goes_on : Bool) (within : place < length text)
    (far : length (lines_in text) ≡ ended + lines_left goes_on (drop place text)) where
  next_byte : drop place text ≡ get_or text place 0 ∷ drop (place + 1) text
  next_byte = rw (add-one place) (drop-cons text place 0 within)

  pub past_feed : get_or text place 0 ≡ 10
      → length (lines_in text) ≡ (ended + 1) + lines_left false (drop (place + 1) text)
  past_feed e =
      let left = ap (lines_left goes_on) next_byte in
      let step = at_feed goes_on (get_or text place 0) (drop (place + 1) text) e in
      omega (arith, far, left, step)

  pub past_other : (get_or text place 0 ≡ 10 → ⊥)
      → length (lines_in text) ≡ ended + lines_left true (drop (place + 1) text)
  past_other ne =
      let left = ap (lines_left goes_on) next_byte in
      let step = at_other goes_on (get_or text place 0) (drop (place + 1) text) ne in
      omega (arith, far, left, step)
