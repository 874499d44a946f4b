-- What a call answers: it is granted, or denied by a number with two places. Assumes nothing.
use Rattle.std.specs.Prelude.{◌≡◌, ℕ, zero, suc, Bool, if◌then◌else◌, IfOk, Ok, Err, Result}
use Rattle.tariff.specs.declared.refusal.Refusal.{Refusal}
use Rattle.tariff.specs.Refusals.{number_of, places_of}

pub data Answer : Type 0 where
  granted : Answer
  denied : (number first second : ℕ) → Answer

-- the answer that a refusal stands for
abbrev pub refused : Refusal → Answer
refused e = denied (number_of e) (places_of e).0 (places_of e).1

-- what a call told its caller
abbrev pub told : {A : Type 0} → Result A Refusal → Answer
told (Ok x) = granted
told (Err e) = refused e

-- tests in order: the first that fails denies
infixr 10 ◌then◌
abbrev pub ◌then◌ : Answer → Answer → Answer
granted then b = b
(denied number first second) then b = denied number first second

-- tests by number, from 1 on
unfoldable pub in_order : (ℕ → Answer) → ℕ → Answer
in_order test zero = granted
in_order test (suc n) = in_order test n then test (suc n)

-- granted where the test passes, else refused
abbrev pub require : Bool → Refusal → Answer
require b e = if b then granted else refused e

-- what stands after a call: something new where it is granted, else what stood before
abbrev pub if_granted : {A : Type 0} → Answer → A → A → A
if_granted granted new old = new
if_granted (denied number first second) new old = old

-- the same, where the new comes from the old
abbrev pub after : {A : Type 0} → Answer → (A → A) → A → A
after answer change old = if_granted answer (change old) old

-- a call that answers so, and gives that value where it is granted
abbrev pub Gives : {A : Type 0} → Answer → A → Result A Refusal → Type 0
Gives answer value r = (told r ≡ answer) × IfOk r (λ x. x ≡ value)
