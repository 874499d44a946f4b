-- Bytes put in place of others. Assumes nothing.
use Rattle.std.specs.Prelude.{Bool, nat_le, ℕ, ◌+◌, List, ◌++◌, length, take, drop}

-- a target with bytes in place of what stood from a place on
abbrev pub put_at : (place : ℕ) (bytes target : List ℕ) → List ℕ
put_at place bytes target = take place target ++ (bytes ++ drop (place + length bytes) target)

-- whether a target is long enough for bytes from a place on
abbrev pub has_room : (place : ℕ) (bytes target : List ℕ) → Bool
has_room place bytes target = nat_le (place + length bytes) (length target)
