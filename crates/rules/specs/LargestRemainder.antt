-- Largest remainder. Assumes nothing.
use Rattle.std.specs.Prelude.{◌≡◌, ℕ, ◌+◌, ◌-◌, ◌*◌, ◌/◌, ◌%◌, ◌<◌, Bool, if◌then◌else◌, ◌&&◌, ◌||◌, ◌⊎◌}
use Rattle.std.specs.Prelude.{List, map, length, sum, sum_by, count_by, ◌==◌, nat_lt, slice_index}
use Rattle.std.specs.List.{range_with_len}
use Rattle.tariff.specs.Division.{Division}

-- the whole part of total × claim / (all claims) at place i
abbrev pub whole_part : ℕ → List ℕ → ℕ → ℕ
whole_part total claims i = total * slice_index claims i / sum claims

-- its remainder
abbrev pub remainder : ℕ → List ℕ → ℕ → ℕ
remainder total claims i = total * slice_index claims i % sum claims

-- the units that the whole parts leave
abbrev pub units_left : ℕ → List ℕ → ℕ
units_left total claims = total - sum_by (whole_part total claims) (range_with_len 0 (length claims))

-- place j comes before place i: its key is larger, or equal and it stands earlier
abbrev pub ahead : (ℕ → ℕ) → ℕ → ℕ → Bool
ahead key i j = nat_lt (key i) (key j) || (key i == key j && nat_lt j i)

-- how many of the first n places come before place i
abbrev pub rank_of : (ℕ → ℕ) → ℕ → ℕ → ℕ
rank_of key n i = count_by (ahead key i) (range_with_len 0 n)

-- the whole part, and a unit more where fewer places come before this one by a key than there are units left
abbrev pub keyed_share : (ℕ → ℕ) → ℕ → List ℕ → ℕ → ℕ
keyed_share key total claims i =
    whole_part total claims i + (if nat_lt (rank_of key (length claims) i) (units_left total claims) then 1 else 0)

-- the units left go to the largest remainders
abbrev pub largest_share : ℕ → List ℕ → ℕ → ℕ
largest_share total claims i = keyed_share (remainder total claims) total claims i

abbrev pub largest : Division
largest total claims = map (largest_share total claims) (range_with_len 0 (length claims))

-- What the rule comes to, whatever the total and the claims: a share is the whole part or one unit more; and where one
-- place got a unit and another did not, the first has the larger remainder, or an equal one and stands earlier.
pub record UnitsToLargest (total : ℕ) (claims : List ℕ) : Type 0 where
  pub single : (i : ℕ) → i < length claims
      → (slice_index (largest total claims) i ≡ whole_part total claims i)
      ⊎ (slice_index (largest total claims) i ≡ whole_part total claims i + 1)
  pub larger : (i j : ℕ) → i < length claims → j < length claims
      → slice_index (largest total claims) i ≡ whole_part total claims i + 1
      → slice_index (largest total claims) j ≡ whole_part total claims j
      → (remainder total claims j < remainder total claims i) ⊎ ((remainder total claims j ≡ remainder total claims i) × (i < j))

abbrev pub LargestFirst : Type 0
LargestFirst = (total : ℕ) (claims : List ℕ) → UnitsToLargest total claims
