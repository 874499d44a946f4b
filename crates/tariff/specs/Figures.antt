-- Figures as they are entered. Assumes nothing.
use Rattle.std.specs.Prelude.{ℕ, Bool, true, ◌&&◌, ℤ, pos, Some, None, Option, int_le}

-- whether an entered figure lies from low to high
abbrev pub between : ℕ → ℕ → ℤ → Bool
between low high figure = int_le (pos low) figure && int_le figure (pos high)

-- whether a figure that may be left out is left out or within its limits
abbrev pub or_missing : (ℤ → Bool) → Option ℤ → Bool
or_missing is_within None = true
or_missing is_within (Some figure) = is_within figure
