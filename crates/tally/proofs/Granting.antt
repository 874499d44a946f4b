-- Answers that are granted: each of their tests is. Assumes nothing.
use Rattle.std.proofs.Common.{◌≡◌, ℕ, zero, suc, ◌<◌, ◌≤◌, Bool, true, false, ℤ, pos, negsuc, nat_abs, refl, ⊎_elim, arith}
use Rattle.std.proofs.lemmas.Bool.{cases_lt}
use Rattle.std.proofs.lemmas.Int.{ints}
use Rattle.std.proofs.lemmas.Bool.Decides.{nat_tests}
use Rattle.tariff.specs.Answers.{Answer, granted, denied, ◌then◌, require, in_order}
use Rattle.tariff.specs.Figures.{between}
use Rattle.tariff.specs.declared.refusal.Refusal.{Refusal}

pub then_first : (a b : Answer) → (a then b) ≡ granted → a ≡ granted
then_first granted b e = refl
then_first (denied number first second) b e = e

pub then_next : (a b : Answer) → (a then b) ≡ granted → b ≡ granted
then_next granted b e = e
then_next (denied number first second) b e = let z : ◌≡◌ {A = ℕ} 0 1 = cc in absurd (omega arith)

pub in_order_lem : (test : ℕ → Answer) (k n : ℕ) → in_order test n ≡ granted → 0 < k → k ≤ n → test k ≡ granted
unfolding in_order
in_order_lem test k zero e h l = absurd (omega arith)
in_order_lem test k (suc n) e h l =
    ⊎_elim
    (λ (m : k < suc n). in_order_lem test k n (then_first (in_order test n) (test (suc n)) e) h (omega arith))
    (λ (m : suc n ≤ k). let s : k ≡ suc n = omega arith in rw s (then_next (in_order test n) (test (suc n)) e))
    (cases_lt k (suc n))

-- a test that is passed
pub passed : (b : Bool) (e : Refusal) → require b e ≡ granted → b ≡ true
passed true e h = refl
passed false e h = let z : ◌≡◌ {A = ℕ} 0 1 = cc in absurd (omega arith)

-- an entered figure within its limits
pub within_limits : (low high : ℕ) (figure : ℤ) → between low high figure ≡ true → (low ≤ nat_abs figure) × (nat_abs figure ≤ high)
within_limits low high (pos n) e = (grind (arith, ints, nat_tests), grind (arith, ints, nat_tests))
within_limits low high (negsuc n) e = absurd (grind (arith, ints, nat_tests))
