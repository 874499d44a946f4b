-- The first of some things that fails its test. Assumes nothing.
use Rattle.std.specs.Prelude.{ℕ, zero, suc, List, ◌∷◌}

-- the first of some things that does not pass for its own of the tests, at a position counted from 1
abbrev pub FirstFailing : {Test Thing : Type 0} → (Test → Thing → Type 0)
    → List Test → List Thing → (position : ℕ) → Type 0
FirstFailing Passes (test ∷ tests) (thing ∷ things) (suc zero) = ¬ Passes test thing
FirstFailing Passes (test ∷ tests) (thing ∷ things) (suc (suc before)) =
    Passes test thing × FirstFailing Passes tests things (suc before)
FirstFailing _ _ _ _ = ⊥
