-- Sums of figures by number, the greatest of them, their list. Assumes nothing.
use Rattle.std.proofs.Common.{◌≡◌, ℕ, zero, suc, ◌+◌, ◌*◌, ◌<◌, ◌≤◌, max, List, [], ◌∷◌, length, get_or, ℤ, pos}
use Rattle.std.proofs.Common.{◌+ℤ◌, nat_abs, sum, sym, refl, ap, ◌∙◌, ap₂, ⊎_elim, add-one, arith}
use Rattle.std.proofs.lemmas.List.FromFn.{length-map-range_with_len, get_or-map-range_with_len, sum_by-map-range_with_len_more}
use Rattle.std.proofs.lemmas.Int.{ints}
use Rattle.std.proofs.lemmas.List.Sums.{sum_by-cons}
use Rattle.std.proofs.lemmas.Bool.{cases_lt}
use Rattle.tally.specs.Numbered.{total, total_z, greatest, listed, numbered}

pub total_none : (f : ℕ → ℕ) → total f 0 ≡ 0
unfolding total
total_none f = refl

pub total_more : (f : ℕ → ℕ) (n : ℕ) → total f (suc n) ≡ total f n + f (suc n)
unfolding total
total_more f n = refl

-- what holds of no number, and of one more, holds of all totals
pub total_same : (f g : ℕ → ℕ) (n : ℕ) → ((k : ℕ) → 0 < k → k ≤ n → f k ≡ g k) → total f n ≡ total g n
total_same f g zero h = total_none f ∙ sym (total_none g)
total_same f g (suc n) h =
    omega (arith, total_more f n, total_more g n, total_same f g n (λ k l m. h k l (omega arith)), h (suc n) (omega arith) (omega arith))

pub total_le : (f g : ℕ → ℕ) (n : ℕ) → ((k : ℕ) → 0 < k → k ≤ n → f k ≤ g k) → total f n ≤ total g n
total_le f g zero h = omega (arith, total_none f, total_none g)
total_le f g (suc n) h =
    omega (arith, total_more f n, total_more g n, total_le f g n (λ k l m. h k l (omega arith)), h (suc n) (omega arith) (omega arith))

pub total_zero : (f : ℕ → ℕ) (n : ℕ) → ((k : ℕ) → 0 < k → k ≤ n → f k ≡ 0) → total f n ≡ 0
total_zero f zero h = total_none f
total_zero f (suc n) h = omega (arith, total_more f n, total_zero f n (λ k l m. h k l (omega arith)), h (suc n) (omega arith) (omega arith))

pub total_add : (f g : ℕ → ℕ) (n : ℕ) → total (λ k. f k + g k) n ≡ total f n + total g n
total_add f g zero = omega (arith, total_none f, total_none g, total_none (λ k. f k + g k))
total_add f g (suc n) = omega (arith, total_more f n, total_more g n, total_more (λ k. f k + g k) n, total_add f g n)

-- fewer numbers come to no more
pub total_front : (f : ℕ → ℕ) (m n : ℕ) → m ≤ n → total f m ≤ total f n
total_front f m zero h = let e : m ≡ 0 = omega arith in rw e (omega arith)
total_front f m (suc n) h =
    ⊎_elim
    (λ (l : m < suc n). omega (arith, total_more f n, total_front f m n (omega arith)))
    (λ (l : suc n ≤ m). let e : m ≡ suc n = omega arith in rw e (omega arith))
    (cases_lt m (suc n))

pub term_le : (f : ℕ → ℕ) (k n : ℕ) → 0 < k → k ≤ n → f k ≤ total f n
term_le f zero n h l = absurd (omega arith)
term_le f (suc k) n h l = omega (arith, total_more f k, total_front f (suc k) n l)

pub total_bound : (f : ℕ → ℕ) (most n : ℕ) → ((k : ℕ) → 0 < k → k ≤ n → f k ≤ most) → total f n ≤ n * most
total_bound f most zero h = omega (arith, total_none f)
total_bound f most (suc n) h =
    let e : suc n * most ≡ n * most + most = omega arith in
    omega (arith, total_more f n, total_bound f most n (λ k l m. h k l (omega arith)), h (suc n) (omega arith) (omega arith), e)

-- rows and columns of a table come to the same
pub total_swap : (f : ℕ → ℕ → ℕ) (m n : ℕ) → total (λ i. total (f i) n) m ≡ total (λ j. total (λ i. f i j) m) n
total_swap f zero n = total_none _ ∙ sym (total_zero (λ j. total (λ i. f i j) 0) n (λ j _ _. total_none (λ i. f i j)))
total_swap f (suc m) n =
    total_more (λ i. total (f i) n) m ∙ ap (λ s. s + total (f (suc m)) n) (total_swap f m n)
    ∙ sym (total_same (λ j. total (λ i. f i j) (suc m)) (λ j. total (λ i. f i j) m + f (suc m) j) n (λ j _ _. total_more (λ i. f i j) m)
    ∙ total_add (λ j. total (λ i. f i j) m) (f (suc m)) n)

pub total_z_none : (f : ℕ → ℤ) → total_z f 0 ≡ pos 0
unfolding total_z
total_z_none f = refl

pub total_z_more : (f : ℕ → ℤ) (n : ℕ) → total_z f (suc n) ≡ total_z f n +ℤ f (suc n)
unfolding total_z
total_z_more f n = refl

pub total_z_same : (f g : ℕ → ℤ) (n : ℕ) → ((k : ℕ) → 0 < k → k ≤ n → f k ≡ g k) → total_z f n ≡ total_z g n
total_z_same f g zero h = total_z_none f ∙ sym (total_z_none g)
total_z_same f g (suc n) h =
    total_z_more f n ∙ ap₂ ◌+ℤ◌ (total_z_same f g n (λ k l m. h k l (omega arith))) (h (suc n) (omega arith) (omega arith))
    ∙ sym (total_z_more g n)

pub total_z_zero : (f : ℕ → ℤ) (n : ℕ) → ((k : ℕ) → 0 < k → k ≤ n → f k ≡ pos 0) → total_z f n ≡ pos 0
total_z_zero f zero h = total_z_none f
total_z_zero f (suc n) h =
    total_z_more f n ∙ ap₂ ◌+ℤ◌ (total_z_zero f n (λ k l m. h k l (omega arith))) (h (suc n) (omega arith) (omega arith))

pub total_z_add : (f g : ℕ → ℤ) (n : ℕ) → total_z (λ k. f k +ℤ g k) n ≡ total_z f n +ℤ total_z g n
total_z_add f g zero = total_z_none (λ k. f k +ℤ g k) ∙ sym (ap₂ ◌+ℤ◌ (total_z_none f) (total_z_none g))
total_z_add f g (suc n) =
    let a = total_z_more f n in
    let b = total_z_more g n in
    let c = total_z_more (λ k. f k +ℤ g k) n in
    let d = total_z_add f g n in
    omega (arith, ints, a, b, c, d)

pub total_z_swap : (f : ℕ → ℕ → ℤ) (m n : ℕ) → total_z (λ i. total_z (f i) n) m ≡ total_z (λ j. total_z (λ i. f i j) m) n
total_z_swap f zero n = total_z_none _ ∙ sym (total_z_zero (λ j. total_z (λ i. f i j) 0) n (λ j _ _. total_z_none (λ i. f i j)))
total_z_swap f (suc m) n =
    total_z_more (λ i. total_z (f i) n) m ∙ ap (λ s. s +ℤ total_z (f (suc m)) n) (total_z_swap f m n)
    ∙ sym (total_z_same (λ j. total_z (λ i. f i j) (suc m)) (λ j. total_z (λ i. f i j) m +ℤ f (suc m) j) n
    (λ j _ _. total_z_more (λ i. f i j) m)
    ∙ total_z_add (λ j. total_z (λ i. f i j) m) (f (suc m)) n)

pub total_z_pos : (f : ℕ → ℕ) (n : ℕ) → total_z (λ k. pos (f k)) n ≡ pos (total f n)
total_z_pos f zero = total_z_none (λ k. pos (f k)) ∙ sym (ap pos (total_none f))
total_z_pos f (suc n) = total_z_more (λ k. pos (f k)) n ∙ ap (λ z. z +ℤ pos (f (suc n))) (total_z_pos f n) ∙ sym (ap pos (total_more f n))

-- a sum of two is no larger than what bounds them comes to
pub add_size : (x y : ℤ) (a b : ℕ) → nat_abs x ≤ a → nat_abs y ≤ b → nat_abs (x +ℤ y) ≤ a + b
add_size x y a b p q = omega (arith, ints)

pub total_z_bound : (f : ℕ → ℤ) (most n : ℕ) → ((k : ℕ) → 0 < k → k ≤ n → nat_abs (f k) ≤ most) → nat_abs (total_z f n) ≤ n * most
total_z_bound f most zero h = rw total_z_none (omega arith)
total_z_bound f most (suc n) h =
    let e : suc n * most ≡ n * most + most = omega arith in
    let a = total_z_bound f most n (λ k l m. h k l (omega arith)) in
    let b = h (suc n) (omega arith) (omega arith) in
    let s = add_size (total_z f n) (f (suc n)) (n * most) most a b in
    rw total_z_more (omega arith)

pub greatest_none : (f : ℕ → ℕ) → greatest f 0 ≡ 0
unfolding greatest
greatest_none f = refl

pub greatest_more : (f : ℕ → ℕ) (n : ℕ) → greatest f (suc n) ≡ max (greatest f n) (f (suc n))
unfolding greatest
greatest_more f n = refl

pub greatest_bound : (f : ℕ → ℕ) (most n : ℕ) → ((k : ℕ) → 0 < k → k ≤ n → f k ≤ most) → greatest f n ≤ most
greatest_bound f most zero h = omega (arith, greatest_none f)
greatest_bound f most (suc n) h =
    omega (arith, greatest_more f n, greatest_bound f most n (λ k l m. h k l (omega arith)), h (suc n) (omega arith) (omega arith))

pub le_greatest : (f : ℕ → ℕ) (k n : ℕ) → 0 < k → k ≤ n → f k ≤ greatest f n
le_greatest f k zero h l = absurd (omega arith)
le_greatest f k (suc n) h l =
    ⊎_elim
    (λ (m : k < suc n). omega (arith, greatest_more f n, le_greatest f k n h (omega arith)))
    (λ (m : suc n ≤ k). let e : k ≡ suc n = omega arith in rw e (omega (arith, greatest_more f n)))
    (cases_lt k (suc n))

pub greatest_le_total : (f : ℕ → ℕ) (n : ℕ) → greatest f n ≤ total f n
greatest_le_total f n = greatest_bound f (total f n) n (λ k l m. term_le f k n l m)

-- more in each place, more in the greatest
pub greatest_le : (f g : ℕ → ℕ) (n : ℕ) → ((k : ℕ) → 0 < k → k ≤ n → f k ≤ g k) → greatest f n ≤ greatest g n
greatest_le f g n h = greatest_bound f (greatest g n) n (λ k l m. let a = h k l m in omega (arith, le_greatest g k n l m))

pub length_listed : (f : ℕ → ℕ) (n : ℕ) → length (listed f n) ≡ n
length_listed f n = length-map-range_with_len f 1 n

pub slice_index_listed : (f : ℕ → ℕ) (n i : ℕ) → i < n → get_or (listed f n) i 0 ≡ f (suc i)
slice_index_listed f n i l = get_or-map-range_with_len f 1 n i (suc i) 0 l (omega arith)

pub sum_listed : (f : ℕ → ℕ) (n : ℕ) → sum (listed f n) ≡ total f n
sum_listed f zero = sym (total_none f)
sum_listed f (suc n) =
    ap (λ m. sum (listed f m)) (sym (add-one n)) ∙ sum_by-map-range_with_len_more (λ x. x) f 1 n (suc n) (omega arith)
    ∙ ap (λ s. s + f (suc n)) (sum_listed f n) ∙ sym (total_more f n)

pub total_first : (f : ℕ → ℕ) (n : ℕ) → total f (suc n) ≡ f 1 + total (λ k. f (suc k)) n
total_first f zero = omega (arith, total_more f 0, total_none f, total_none (λ k. f (suc k)))
total_first f (suc n) = omega (arith, total_more f (suc n), total_first f n, total_more (λ k. f (suc k)) n)

-- a list's figures by number come to its sum
pub total_numbered : (list : List ℕ) (n : ℕ) → length list ≡ n → total (numbered list) n ≡ sum list
total_numbered [] zero e = total_none (numbered [])
total_numbered [] (suc n) e = absurd (omega arith)
total_numbered (x ∷ xs) zero e = absurd (omega arith)
total_numbered (x ∷ xs) (suc n) e =
    total_first (numbered (x ∷ xs)) n
    ∙ ap (λ s. x + s) (total_same (λ k. numbered (x ∷ xs) (suc k)) (numbered xs) n shifted ∙ total_numbered xs n (omega arith))
    ∙ sym (sum_by-cons (λ y. y) x xs)
  where
    shifted : (k : ℕ) → 0 < k → k ≤ n → numbered (x ∷ xs) (suc k) ≡ numbered xs k
    shifted zero l m = absurd (omega arith)
    shifted (suc k) l m = refl
