-- The first option among arguments. Assumes nothing.
use Rattle.std.proofs.Common.{◌≡◌, ℕ, zero, suc, ◌<◌, List, [], ◌∷◌, length, drop, get_or, true, Some, arith}
use Rattle.std.specs.Prelude.{string_bytes}
use Rattle.std.specs.declared.alloc.Global.{Global}
use Rattle.std.specs.declared.string.String.{String}
use Rattle.holdbook.specs.Arguments.{first_option, is_option}

pub option_here : (arguments : List (String Global)) (i : ℕ) (d : String Global) → i < length arguments
    → is_option (string_bytes (get_or arguments i d)) ≡ true
    → first_option (drop i arguments) ≡ Some (string_bytes (get_or arguments i d))
option_here [] i d here option = absurd (omega arith)
option_here (argument ∷ arguments) zero d here option = rw option cc
option_here (argument ∷ arguments) (suc i) d here option = option_here arguments i d (omega arith) option
