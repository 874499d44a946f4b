-- Figures by number, from 1 up: their sum, the greatest of them, their list. Assumes nothing.
use Rattle.std.specs.Prelude.{ℕ, zero, suc, ◌+◌, max, if◌then◌else◌, List, map, ℤ, pos, negsuc, ◌+ℤ◌, ◌==◌, slice_index}
use Rattle.std.specs.List.{range_with_len}

-- f 1 + f 2 + .. + f n
unfoldable pub total : (ℕ → ℕ) → ℕ → ℕ
total f zero = 0
total f (suc n) = total f n + f (suc n)

-- what comes before number k: f 1 + .. + f (k − 1)
abbrev pub before : (ℕ → ℕ) → ℕ → ℕ
before f zero = 0
before f (suc k) = total f k

-- the sum of figures that may be below 0
unfoldable pub total_z : (ℕ → ℤ) → ℕ → ℤ
total_z f zero = pos 0
total_z f (suc n) = total_z f n +ℤ f (suc n)

-- the greatest of f 1, f 2, .., f n, and 0 where n is 0
unfoldable pub greatest : (ℕ → ℕ) → ℕ → ℕ
greatest f zero = 0
greatest f (suc n) = max (greatest f n) (f (suc n))

-- f 1, f 2, .., f n in one list
abbrev pub listed : (ℕ → ℕ) → ℕ → List ℕ
listed f n = map f (range_with_len 1 n)

-- the figures of such a list by number
abbrev pub numbered : List ℕ → ℕ → ℕ
numbered list zero = 0
numbered list (suc i) = slice_index list i

-- the figures with x in the place of number k
abbrev pub replaced : {A : Type 0} → (ℕ → A) → ℕ → A → ℕ → A
replaced f k x i = if i == k then x else f i

-- a figure where it is above 0, else 0
abbrev pub positive_part : ℤ → ℕ
positive_part (pos n) = n
positive_part (negsuc n) = 0
