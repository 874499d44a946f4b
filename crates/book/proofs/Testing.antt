-- Tests made one after another: what those that are passed leave to the others. Assumes nothing.
use Rattle.std.proofs.Common.{◌≡◌, ◌≢◌, ℕ, zero, suc, ◌+◌, ◌<◌, ◌≤◌, refl, sym, ◌∙◌, ap, ⊎_elim, add-one, arith}
use Rattle.std.proofs.lemmas.Bool.{cases_lt}
use Rattle.tariff.specs.Answers.{Answer, granted, denied, refused, ◌then◌, in_order}
use Rattle.tariff.specs.declared.refusal.Refusal.{Refusal}

pub refused≢granted : (e : Refusal) → refused e ≢ granted
refused≢granted e h = cc

-- a test that is passed leaves the answer to those after it
pub granted_then : (test rest : Answer) → granted ≡ test → rest ≡ (test then rest)
granted_then test rest e = ap (λ x. x then rest) e

-- and one that is not passed leaves nothing to them
pub denied_then : (e : Refusal) (test rest : Answer) → refused e ≡ test → refused e ≡ (test then rest)
denied_then e test rest h = ap (λ x. x then rest) h

pub then_assoc : (a b rest : Answer) → ((a then b) then rest) ≡ (a then b then rest)
then_assoc granted b rest = refl
then_assoc (denied n f s) b rest = refl

-- tests in order, one more of which is passed
pub in_order_more : (test : ℕ → Answer) (n : ℕ) → in_order test n ≡ granted → granted ≡ test (suc n) → in_order test (n + 1) ≡ granted
unfolding in_order
in_order_more test n e f = ap (in_order test) (add-one n) ∙ ap (λ a. a then test (suc n)) e ∙ sym f

-- the first test that fails tells
pub first_refused : (test : ℕ → Answer) (n : ℕ) (e : Refusal) → in_order test n ≡ granted → refused e ≡ test (suc n)
    → (m : ℕ) → n < m → refused e ≡ in_order test m
unfolding in_order
first_refused test n e before here zero l = absurd (omega arith)
first_refused test n e before here (suc m) l =
    ⊎_elim
    (λ (k : n < m). ap (λ a. a then test (suc m)) (first_refused test n e before here m k))
    (λ (k : m ≤ n). let s : m ≡ n = omega arith in
    rw s (here ∙ ap (λ a. a then test (suc n)) (sym before)))
    (cases_lt n m)
