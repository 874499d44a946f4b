-- Only one thing is the first that fails its test.
use Rattle.std.proofs.Common.{◌≡◌, ℕ, zero, suc, List, ◌∷◌, refl, ap}
use Rattle.lines.specs.Positions.{FirstFailing}

pub one_first : {Test Thing : Type 0} (Passes : Test → Thing → Type 0) (ts : List Test) (xs : List Thing) (p q : ℕ)
    → FirstFailing Passes ts xs p → FirstFailing Passes ts xs q → p ≡ q
one_first Passes (t ∷ ts) (x ∷ xs) (suc zero) (suc zero) f g = refl
one_first Passes (t ∷ ts) (x ∷ xs) (suc zero) (suc (suc q)) f g = absurd (f g.0)
one_first Passes (t ∷ ts) (x ∷ xs) (suc (suc p)) (suc zero) f g = absurd (g f.0)
one_first Passes (t ∷ ts) (x ∷ xs) (suc (suc p)) (suc (suc q)) f g =
    ap suc (one_first Passes ts xs (suc p) (suc q) f.1 g.1)
one_first Passes _ _ _ _ f g = absurd assumption
