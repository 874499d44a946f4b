-- Sums and counts over lists, and over the places below n. Assumes nothing.
use Rattle.std.specs.Prelude.{◌≡◌, ℕ, zero, suc, ◌+◌, ◌*◌, ◌<◌, ◌≤◌, Bool, true, false}
use Rattle.std.specs.Prelude.{if◌then◌else◌, List, [], ◌∷◌, map, sum, sum_by, count_by, refl}
use Rattle.std.proofs.Common.{⊎_elim, sym, subst, ap, ◌∙◌, add-mul, add-one, arith}
use Rattle.std.specs.List.{range_with_len}
use Rattle.std.proofs.lemmas.List.FromFn.{length-range_with_len, sum_by-map-range_with_len_more, take-map-range_with_len}
use Rattle.std.proofs.lemmas.List.Folds.{fold_stays}
use Rattle.std.proofs.lemmas.List.Sums.{count_by-le-length, sum-map, sum_by-cons, sum_by-take-le}
use Rattle.std.proofs.lemmas.Bool.{cases_lt}

-- an induction whose step is written n + 1
pub by_count : (P : ℕ → Type 0) → P 0 → ((n : ℕ) → P n → P (n + 1)) → (n : ℕ) → P n
by_count P z s zero = z
by_count P z s (suc n) = subst P (add-one n) (s n (by_count P z s n))

pub sum_more : (f : ℕ → ℕ) (n : ℕ) → sum_by f (range_with_len 0 (n + 1)) ≡ sum_by f (range_with_len 0 n) + f n
sum_more f n =
    sym (sum-map f (range_with_len 0 (n + 1)))
    ∙ sum_by-map-range_with_len_more (λ x. x) f 0 n n (omega arith)
    ∙ ap (λ s. s + f n) (sum-map f (range_with_len 0 n))

-- what is no more at each place comes to no more
pub sum_le : (f g : ℕ → ℕ) (n : ℕ) → ((i : ℕ) → i < n → f i ≤ g i)
    → sum_by f (range_with_len 0 n) ≤ sum_by g (range_with_len 0 n)
sum_le f g =
    by_count (λ n. ((i : ℕ) → i < n → f i ≤ g i) → sum_by f (range_with_len 0 n) ≤ sum_by g (range_with_len 0 n)) (λ _. omega arith)
    (λ n before h. omega (arith, before (λ i l. h i (omega arith)), h n (omega arith), sum_more f n, sum_more g n))

-- fewer places come to no more
pub sum_front : (f : ℕ → ℕ) (k n : ℕ) → k ≤ n → sum_by f (range_with_len 0 k) ≤ sum_by f (range_with_len 0 n)
sum_front f k n h =
    let front = ap sum (take-map-range_with_len f 0 n k h) in
    omega (arith, sum_by-take-le (λ x. x) (map f (range_with_len 0 n)) k, sum-map f (range_with_len 0 k), sum-map f (range_with_len 0 n))

pub sum_add : (f g : ℕ → ℕ) (xs : List ℕ) → sum_by (λ i. f i + g i) xs ≡ sum_by f xs + sum_by g xs
sum_add f g [] = refl
sum_add f g (x ∷ xs) =
    omega (arith, sum_add f g xs, sum_by-cons f x xs, sum_by-cons g x xs, sum_by-cons (λ i. f i + g i) x xs)

pub sum_scale : (f : ℕ → ℕ) (m : ℕ) (xs : List ℕ) → sum_by f xs * m ≡ sum_by (λ i. f i * m) xs
sum_scale f m [] = omega arith
sum_scale f m (x ∷ xs) =
    omega (arith, sum_scale f m xs, ap (λ s. s * m) (sum_by-cons f x xs), add-mul (f x) (sum_by f xs) m, sum_by-cons (λ i. f i * m) x xs)

pub sum_none : (f : ℕ → ℕ) (xs : List ℕ) → ((i : ℕ) → f i ≡ 0) → sum_by f xs ≡ 0
sum_none f xs h = fold_stays (λ a i. a + f i) 0 (λ i. omega (arith, h i)) xs

-- what a place adds to a count
abbrev pub one_if : Bool → ℕ
one_if b = if b then 1 else 0

one_if_le : (a b : Bool) → (a ≡ true → b ≡ true) → one_if a ≤ one_if b
one_if_le false b h = omega arith
one_if_le true b h = rw (h refl) (omega arith)

pub count_more : (p : ℕ → Bool) (n : ℕ) → count_by p (range_with_len 0 (n + 1)) ≡ count_by p (range_with_len 0 n) + one_if (p n)
count_more p n = sum_more (λ i. one_if (p i)) n

pub count_le : (p q : ℕ → Bool) (n : ℕ) → ((i : ℕ) → i < n → p i ≡ true → q i ≡ true)
    → count_by p (range_with_len 0 n) ≤ count_by q (range_with_len 0 n)
count_le p q n h = sum_le (λ i. one_if (p i)) (λ i. one_if (q i)) n (λ i l. one_if_le (p i) (q i) (h i l))

pub count_same : (p q : ℕ → Bool) (n : ℕ) → ((i : ℕ) → i < n → p i ≡ q i)
    → count_by p (range_with_len 0 n) ≡ count_by q (range_with_len 0 n)
count_same p q =
    by_count (λ n. ((i : ℕ) → i < n → p i ≡ q i) → count_by p (range_with_len 0 n) ≡ count_by q (range_with_len 0 n)) (λ _. refl)
    (λ n before h. omega (arith, before (λ i l. h i (omega arith)), ap one_if (h n (omega arith)), count_more p n, count_more q n))

-- one place that only q passes makes the difference
abbrev Less : (p q : ℕ → Bool) → ℕ → Type 0
Less p q n =
    ((i : ℕ) → i < n → p i ≡ true → q i ≡ true) → (j : ℕ) → j < n → p j ≡ false → q j ≡ true
    → count_by p (range_with_len 0 n) < count_by q (range_with_len 0 n)

pub count_less : (p q : ℕ → Bool) (n : ℕ) → Less p q n
count_less p q =
    by_count (Less p q) (λ _ j l. omega arith)
    (λ n before h j l e f. ⊎_elim
    (λ (m : j < n).
    omega (arith, before (λ i k. h i (omega arith)) j m e f, one_if_le (p n) (q n) (h n (omega arith)), count_more p n, count_more q n))
    (λ (m : n ≤ j). let z : n ≡ j = omega arith in
    let none : one_if (p n) ≡ 0 = rw (z, e) in
    let one : one_if (q n) ≡ 1 = rw (z, f) in
    omega (arith, count_le p q n (λ i k. h i (omega arith)), none, one, count_more p n, count_more q n))
    (cases_lt j n))

pub count_within : (p : ℕ → Bool) (n : ℕ) → count_by p (range_with_len 0 n) ≤ n
count_within p n = omega (arith, count_by-le-length p (range_with_len 0 n), length-range_with_len 0 n)
