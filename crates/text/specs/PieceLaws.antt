-- What pieces of bytes are, in words of their own. Assumes nothing.
use Rattle.std.specs.Prelude.{◌≡◌, ◌≢◌, ℕ, List, [], ◌∷◌, ◌++◌}
use Rattle.text.specs.Pieces.{cut}

module _ (stop : ℕ) where
  -- pieces one after another, with a stop between each two
  abbrev pub parted : List (List ℕ) → List ℕ
  parted [] = []
  parted (piece ∷ []) = piece
  parted (piece ∷ (next ∷ pieces)) = piece ++ (stop ∷ parted (next ∷ pieces))

  -- bytes among which there is no stop
  abbrev pub Unbroken : List ℕ → Type 0
  Unbroken [] = Unit {0}
  Unbroken (byte ∷ bytes) = (byte ≢ stop) × Unbroken bytes

  abbrev pub AllUnbroken : List (List ℕ) → Type 0
  AllUnbroken [] = Unit {0}
  AllUnbroken (piece ∷ pieces) = Unbroken piece × AllUnbroken pieces

  -- the pieces of bytes are the bytes, and there is no stop in one of them
  pub record PiecesOf (bytes : List ℕ) (pieces : List (List ℕ)) : Type 0 where
    pub some : pieces ≢ []
    pub joined : parted pieces ≡ bytes
    pub unbroken : AllUnbroken pieces

-- what bytes are cut into are their pieces, and they have no others
pub record CutWhole : Type 0 where
  pub pieces : (stop : ℕ) (bytes : List ℕ) → PiecesOf stop bytes (cut stop bytes)
  pub only : (stop : ℕ) (bytes : List ℕ) (pieces : List (List ℕ)) → PiecesOf stop bytes pieces → pieces ≡ cut stop bytes
