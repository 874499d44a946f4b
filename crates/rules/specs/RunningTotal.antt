-- Running total. Assumes nothing.
use Rattle.std.specs.Prelude.{ℕ, ◌+◌, ◌-◌, ◌*◌, ◌/◌, List, map, length, take, sum}
use Rattle.std.specs.List.{range_with_len}
use Rattle.tariff.specs.Division.{Division}

-- the whole part of total × (the first i claims) / (all claims)
abbrev pub reached : ℕ → List ℕ → ℕ → ℕ
reached total claims i = total * sum (take i claims) / sum claims

-- what the claims up to and with place i reach, less what those before it reach
abbrev pub running_share : ℕ → List ℕ → ℕ → ℕ
running_share total claims i = reached total claims (i + 1) - reached total claims i

abbrev pub running : Division
running total claims = map (running_share total claims) (range_with_len 0 (length claims))
