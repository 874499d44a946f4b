-- Rounding to the nearest whole number. Assumes nothing.
use Rattle.std.specs.Prelude.{ℕ, ◌+◌, ◌<◌, ℤ, pos, ◌+ℤ◌, ◌*ℤ◌, ◌≤ℤ◌, ◌<ℤ◌}
use Rattle.std.specs.Int.{int_div_euclid}

-- n / d to the nearest whole number, halves up, toward plus infinity: the whole part of n / d + 1 / 2
abbrev pub nearest : ℤ → ℤ → ℤ
nearest n d = int_div_euclid (n +ℤ n +ℤ d) (d +ℤ d)

-- What rounding keeps, for every n and every d above 0: with q the rounded figure, q − 1/2 ≤ n / d < q + 1/2.
-- So no whole number lies nearer, and a half goes up, of negative figures too.
abbrev pub RoundsHalfUp : Type 0
RoundsHalfUp =
    (n : ℤ) (d : ℕ) → 0 < d →
    ((nearest n (pos d) *ℤ pos (d + d)) ≤ℤ (n +ℤ n +ℤ pos d)) × ((n +ℤ n +ℤ pos d) <ℤ ((nearest n (pos d) +ℤ pos 1) *ℤ pos (d + d)))
