-- Where a piece of bytes ends.
use Rattle.std.proofs.Common.{◌≡◌, ℕ, zero, suc, ◌+◌, ◌-◌, ◌≤◌, List, [], ◌∷◌, length, refl, ap, min, drop, Bool}
use Rattle.std.proofs.Common.{cond, ltb, not, Some, None, ◌==◌, arith}
use Rattle.std.specs.List.{position_or_len}
use Rattle.std.specs.Option.{unwrap_or}
use Rattle.std.proofs.lemmas.Bool.Decides.{nat_tests}
use Rattle.std.proofs.lemmas.List.Sums.{prefix_len-le-length}
use Rattle.text.specs.Pieces.{end_in}

pub end_within : (stop : ℕ) (bytes : List ℕ) (place : ℕ) → end_in stop bytes place ≤ length bytes
end_within stop [] place = omega arith
end_within stop (byte ∷ bytes) zero = let h = end_within stop bytes zero in grind (arith, nat_tests)
end_within stop (byte ∷ bytes) (suc place) = let h = end_within stop bytes place in omega arith

pub end_after : (stop : ℕ) (bytes : List ℕ) (place : ℕ) → place ≤ length bytes → place ≤ end_in stop bytes place
end_after stop bytes zero h = omega arith
end_after stop [] (suc place) h = absurd (omega arith)
end_after stop (byte ∷ bytes) (suc place) h = let g = end_after stop bytes place (omega arith) in omega arith

-- no byte is left of which to find an end
pub end_past : (stop : ℕ) (bytes : List ℕ) (place : ℕ) → length bytes ≤ place → end_in stop bytes place ≡ length bytes
end_past stop [] place h = refl
end_past stop (byte ∷ bytes) zero h = absurd (omega arith)
end_past stop (byte ∷ bytes) (suc place) h = ap suc (end_past stop bytes place (omega arith))

-- the end by how many bytes stand before it
pub end_by_count : (stop : ℕ) (bytes : List ℕ) (place from : ℕ) → from ≡ min place (length bytes)
    → from + position_or_len (λ byte. byte == stop) (drop from bytes) ≡ end_in stop bytes place
end_by_count stop [] place from e = let z : from ≡ 0 = omega arith in rw z refl
end_by_count stop (byte ∷ bytes) zero from e =
    let z : from ≡ 0 = omega arith in
    let h = end_by_count stop bytes zero zero (omega arith) in
    rw z (grind (arith, nat_tests))
end_by_count stop (byte ∷ bytes) (suc place) from e =
    let s : from ≡ suc (from - 1) = omega arith in
    let h = end_by_count stop bytes place (from - 1) (omega arith) in
    rw s (omega arith)

-- where a search that finds nothing is told as the length
pub found_or_all : (bytes : List ℕ) (test : ℕ → Bool)
    → let place = position_or_len test bytes in
    unwrap_or (cond (ltb place (length bytes)) (Some place) None) (length bytes) ≡ place
found_or_all bytes test = let h = prefix_len-le-length (λ x. not (test x)) bytes in grind (arith, nat_tests)
