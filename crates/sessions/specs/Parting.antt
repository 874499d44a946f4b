-- Where two texts part. Assumes nothing.
use Rattle.std.specs.Prelude.{◌≡◌, ◌≢◌, ◌==◌, ℕ, ◌+◌, List, take, count_by, slice_get}

-- they are alike up to a place, and at that place they are not: a byte differs, or one of them has ended
pub record PartAt (place : ℕ) (given expected : List ℕ) : Type 0 where
  pub alike : take place given ≡ take place expected
  pub parts : slice_get given place ≢ slice_get expected place

-- the line in which a place of a text stands, counted from 1
abbrev pub line_at : (place : ℕ) → List ℕ → ℕ
line_at place text = count_by (λ byte. byte == 10) (take place text) + 1
