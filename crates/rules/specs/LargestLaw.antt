-- Largest remainder keeps the law. Assumes nothing.
use Rattle.std.specs.Prelude.{◌≡◌, ℕ, zero, suc, ◌+◌, ◌*◌, ◌/◌, ◌%◌, ◌<◌, ◌≤◌, Bool, true, false, ltb, List}
use Rattle.std.specs.Prelude.{length, take, sum, sum_by, count_by, nat_lt, slice_index, refl}
use Rattle.std.proofs.Common.{take_all, ⊎_elim, ap, ◌∙◌, add-mul, div-add-mod', le_of_mul-le-mul_right, mod-lt, one-mul, zero-mul, arith}
use Rattle.std.specs.List.{range_with_len}
use Rattle.std.proofs.Math.Nat.{zero-div}
use Rattle.std.proofs.lemmas.List.Sums.{sum-map, sum_by-le-sum_by}
use Rattle.std.proofs.lemmas.Bool.{cases_lt, lt-ltb, ltb-true}
use Rattle.std.proofs.lemmas.Bool.Decides.{nat_tests}
use Rattle.tariff.specs.Division.{LawfulRule, gap}
use Rattle.rules.specs.LargestRemainder.{ahead, largest, largest_share, rank_of, remainder, units_left, whole_part}
use Rattle.rules.specs.Accepting.{Claimed, claimed, claimed_or_none, lawful_by, product_more}
use Rattle.rules.specs.Counts.{by_count, count_le, count_within, one_if, sum_add, sum_front, sum_more, sum_none, sum_scale}
use Rattle.rules.specs.Ranks.{ranked}

-- one unit for a remainder above 0 covers it
covered : (r W : ℕ) → r ≤ W → r ≤ one_if (nat_lt 0 r) * W
covered zero W h = omega arith
covered (suc r) W h = rw (lt-ltb 0 (suc r) (omega arith), one-mul) h

-- a whole part, or one more where there is a remainder
near_one : (x W : ℕ) (b : Bool) → 0 < W → (b ≡ true → 0 < x % W) → gap ((x / W + one_if b) * W) x < W
near_one x W false h f = omega (arith, add-mul (x / W) 0 W, div-add-mod' x W, mod-lt x h)
near_one x W true h f = omega (arith, add-mul (x / W) 1 W, div-add-mod' x W, mod-lt x h, f refl)

module _ (T : ℕ) (ws : List ℕ) where
  -- what the whole parts and the remainders of the first n places come to
  abbrev wholes : ℕ → ℕ
  wholes n = sum_by (whole_part T ws) (range_with_len 0 n)

  abbrev rests : ℕ → ℕ
  rests n = sum_by (remainder T ws) (range_with_len 0 n)

  -- they make up T × the claims of these places
  parts : (n : ℕ) → n ≤ length ws → wholes n * sum ws + rests n ≡ T * sum (take n ws)
  parts =
      by_count (λ n. n ≤ length ws → wholes n * sum ws + rests n ≡ T * sum (take n ws))
      (λ _. omega arith)
      (λ n before h.
      let l : n < length ws = omega arith in
      let q = ap (λ s. s * sum ws) (sum_more (whole_part T ws) n) ∙ add-mul (wholes n) (whole_part T ws n) (sum ws) in
      omega (arith, before (omega arith), sum_more (remainder T ws) n, product_more T ws n l, div-add-mod' (T * slice_index ws n) (sum ws)))

  all_parts : wholes (length ws) * sum ws + rests (length ws) ≡ T * sum ws
  all_parts = parts (length ws) (omega arith) ∙ ap (λ l. T * sum l) (take_all (length ws) ws (omega arith))

  -- the whole parts come to no more than the total
  wholes_le : Claimed T ws → wholes (length ws) ≤ T
  wholes_le ok =
      ⊎_elim
      (λ (h : 0 < sum ws). le_of_mul-le-mul_right (omega (arith, all_parts)) h)
      (λ (z : T ≡ 0). omega (arith, sum_none (whole_part T ws) (range_with_len 0 (length ws)) (λ i. rw (z, zero-mul, zero-div))))
      (claimed_or_none T ws ok)

  -- a whole part is at most what the ones before it leave
  pub whole_within : Claimed T ws → (i : ℕ) → i < length ws → wholes i + whole_part T ws i ≤ T
  whole_within ok i l =
      omega (arith, wholes_le ok, sum_more (whole_part T ws) i, sum_front (whole_part T ws) (i + 1) (length ws) (omega arith))

  -- there is no more than one unit for each remainder above 0
  left_le : Claimed T ws → units_left T ws ≤ count_by (λ i. ltb 0 (remainder T ws i)) (range_with_len 0 (length ws))
  left_le ok =
      let n = length ws in
      let units = λ (i : ℕ). one_if (nat_lt 0 (remainder T ws i)) in
      ⊎_elim
      (λ (h : 0 < sum ws).
      let low : (i : ℕ) → remainder T ws i ≤ sum ws = λ i. omega (arith, mod-lt (T * slice_index ws i) h) in
      let each = sum_by-le-sum_by (remainder T ws) (λ i. units i * sum ws) (range_with_len 0 n)
      (λ i. covered (remainder T ws i) (sum ws) (low i)) in
      let split = add-mul (units_left T ws) (wholes n) (sum ws) in
      let back : (units_left T ws + wholes n) * sum ws ≡ T * sum ws = ap (λ n. n * sum ws) (omega (arith, wholes_le ok)) in
      le_of_mul-le-mul_right (omega (arith, all_parts, sum_scale units (sum ws) (range_with_len 0 n))) h)
      (λ (z : T ≡ 0). omega arith)
      (claimed_or_none T ws ok)

  -- a unit goes to a remainder above 0 alone
  pub served_above : Claimed T ws → (i : ℕ) → rank_of (remainder T ws) (length ws) i < units_left T ws → 0 < remainder T ws i
  served_above ok i l =
      ⊎_elim (λ h. h)
      (λ (z : remainder T ws i ≤ 0).
      let all = count_le (λ j. ltb 0 (remainder T ws j)) (ahead (remainder T ws) i) (length ws) (λ j _ e. grind (arith, nat_tests)) in
      omega (arith, left_le ok))
      (cases_lt 0 (remainder T ws i))

pub largest_lawful : LawfulRule 10 largest
largest_lawful T ws ok =
    let own = claimed 10 T ws ok in
    let unit = λ (i : ℕ). ltb (rank_of (remainder T ws) (length ws) i) (units_left T ws) in
    let few : units_left T ws ≤ length ws = omega (arith, left_le T ws own, count_within (λ i. ltb 0 (remainder T ws i)) (length ws)) in
    let units = ranked (remainder T ws) (length ws) (units_left T ws) few in
    let both = sum_add (whole_part T ws) (λ i. one_if (unit i)) (range_with_len 0 (length ws)) in
    lawful_by (largest_share T ws) T ws
    (sum-map (largest_share T ws) (range_with_len 0 (length ws)) ∙ both ∙ omega (arith, wholes_le T ws own))
    (λ h i l. near_one (T * slice_index ws i) (sum ws) (unit i) h (λ e. served_above T ws own i (ltb-true _ _ e)))
