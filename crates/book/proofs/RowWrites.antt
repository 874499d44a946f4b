-- Rows into which one entry is written after another. Assumes nothing.
use Rattle.std.proofs.Common.{◌≡◌, ◌≢◌, ℕ, zero, suc, ◌+◌, ◌<◌, ◌≤◌, List, length, get_or, set, subst, refl, sym, ◌∙◌, ap, get_or-set_other}
use Rattle.std.proofs.Common.{get_or-set_same, below_more, arith}
use Rattle.std.proofs.lemmas.Bool.{ne_eqb}
use Rattle.tally.specs.Numbered.{replaced}
use Rattle.tally.proofs.SoundHours.{replaced_has}
use Rattle.book.specs.Records.{at}
use Rattle.book.proofs.Placing.{at_set}

-- what holds of the first places, and of one more
pub place_next : {A : Type 0} (none : A) (row : List A) (p : ℕ) (x : A) (P : ℕ → A → Type 0)
    → p < length row → P p x → ((k : ℕ) → k < p → P k (get_or row k none))
    → (k : ℕ) → k < p + 1 → P k (get_or (set row p x) k none)
place_next {A} none row p x P l e h =
    below_more (λ k. P k (get_or (set row p x) k none)) p
    (λ k b. let other : k ≢ p = omega arith in rw get_or-set_other (h k b))
    (rw get_or-set_same e)

-- the same by number
pub row_next : {A : Type 0} (none : A) (row : List A) (p : ℕ) (x : A) (P : ℕ → A → Type 0)
    → p < length row → P (suc p) x → ((k : ℕ) → 0 < k → k ≤ p → P k (at none row k))
    → (k : ℕ) → 0 < k → k ≤ p + 1 → P k (at none (set row p x) k)
row_next none row p x P l e h zero first last = absurd (omega arith)
row_next none row p x P l e h (suc k) first last =
    place_next none row p x (λ i. P (suc i)) l e (λ i b. h (suc i) (omega arith) (omega arith)) k (omega arith)

-- what holds of every entry, and of the new one
pub row_all : {A : Type 0} (none : A) (row : List A) (p : ℕ) (x : A) (P : A → Type 0) → p < length row → P x
    → ((k : ℕ) → P (at none row k)) → (k : ℕ) → P (at none (set row p x) k)
row_all {A} none row p x P l e h k =
    subst P (sym (ap (λ (g : ℕ → A). g k) (at_set none row p x l)))
    (replaced_has (λ i. P) (at none row) (suc p) x e h k)

-- the entries after it stay as they were
pub row_rest : {A : Type 0} (none : A) (row : List A) (p : ℕ) (x : A) → p < length row
    → (k : ℕ) → p + 1 < k → at none (set row p x) k ≡ at none row k
row_rest {A} none row p x l k after = ap (λ (g : ℕ → A). g k) (at_set none row p x l) ∙ other
  where
    other : replaced (at none row) (suc p) x k ≡ at none row k
    other = let n : k ≢ suc p = omega arith in rw (ne_eqb k (suc p) n) refl
