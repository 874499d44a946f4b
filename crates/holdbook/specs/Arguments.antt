-- What the program's arguments ask for. Assumes nothing.
use Rattle.std.specs.Prelude.{◌≡◌, ◌≢◌, ℕ, List, [], ◌∷◌, Option, Some, None, codes, string_bytes, Bool, false, ◌==◌, if◌then◌else◌}
use Rattle.std.specs.declared.alloc.Global.{Global}
use Rattle.std.specs.declared.string.String.{String}
use Rattle.holdbook.specs.declared.arguments.Asked.{Asked}
use Rattle.holdbook.specs.declared.arguments.Asked.TheVariants.{Help, Session, Unknown}

-- an option begins with a hyphen
abbrev pub is_option : List ℕ → Bool
is_option [] = false
is_option (byte ∷ bytes) = byte == 45

abbrev pub first_option : List (String Global) → Option (List ℕ)
first_option [] = None
first_option (argument ∷ arguments) =
    if is_option (string_bytes argument) then Some (string_bytes argument) else first_option arguments

-- the first option decides; without one, all arguments are names of files
abbrev pub AskedBy : List (String Global) → Asked → Type 0
AskedBy arguments Help = first_option arguments ≡ Some (codes "--help")
AskedBy arguments (Session names) = (first_option arguments ≡ None) × (names.now ≡ arguments)
AskedBy arguments (Unknown option) = (first_option arguments ≡ Some option.now) × (option.now ≢ codes "--help")
