-- The ranks of n places by a key are 0 to n - 1, each once: k places have a rank below k. Assumes nothing.
use Rattle.std.specs.Prelude.{◌≡◌, ℕ, ◌+◌, ◌-◌, ◌<◌, ◌≤◌, true, false, ◌⊎◌, count_by, nat_lt}
use Rattle.std.specs.List.{range_with_len}
use Rattle.std.proofs.Common.{inl, inr, ⊎_elim, ap, arith}
use Rattle.std.proofs.lemmas.Bool.{cases_Bool, cases_lt}
use Rattle.std.proofs.lemmas.Bool.Decides.{nat_tests}
use Rattle.rules.specs.LargestRemainder.{ahead, rank_of}
use Rattle.rules.specs.Counts.{by_count, count_le, count_less, count_more, count_same, count_within, one_if}

-- keys that agree on the places give the same ranks
pub rank_same : (r s : ℕ → ℕ) (n i : ℕ) → i < n → ((j : ℕ) → j < n → r j ≡ s j) → rank_of r n i ≡ rank_of s n i
rank_same r s n i l h = count_same (ahead r i) (ahead s i) n (λ j m. rw (h i l, h j m))

module _ (r : ℕ → ℕ) where
  ahead_not_self : (i : ℕ) → ahead r i i ≡ false
  ahead_not_self i = grind (arith, nat_tests)

  ahead_one_way : (i j : ℕ) → ahead r i j ≡ true → ahead r j i ≡ false
  ahead_one_way i j h = grind (arith, nat_tests)

  ahead_either : (i j : ℕ) → j < i → ahead r i j ≡ false → ahead r j i ≡ true
  ahead_either i j l h = grind (arith, nat_tests)

  -- what is ahead of j is ahead of i, which j is ahead of
  ahead_on : (i j k : ℕ) → ahead r i j ≡ true → ahead r j k ≡ true → ahead r i k ≡ true
  ahead_on i j k h l = grind (arith, nat_tests)

  pub rank_less : (n i j : ℕ) → i < n → ahead r j i ≡ true → rank_of r n i < rank_of r n j
  rank_less n i j l h = count_less (ahead r i) (ahead r j) n (λ k _ e. ahead_on j i k h e) i l (ahead_not_self i) h

  -- the rank among one place more
  rank_more : (n i : ℕ) → rank_of r (n + 1) i ≡ rank_of r n i + one_if (ahead r i n)
  rank_more n i = count_more (ahead r i) n

  last_rank : (n : ℕ) → rank_of r (n + 1) n ≡ rank_of r n n
  last_rank n = omega (arith, rank_more n n, ap one_if (ahead_not_self n))

  -- a place below n either comes before place n, with a lower rank, or after, with a rank no lower that goes up by one
  sides : (n i : ℕ) → i < n →
      ((rank_of r (n + 1) i ≡ rank_of r n i) × (rank_of r n i < rank_of r n n))
      ⊎ ((rank_of r (n + 1) i ≡ rank_of r n i + 1) × (rank_of r n n ≤ rank_of r n i))
  sides n i l =
      ⊎_elim
      (λ e. inl (omega (arith, rank_more n i, ap one_if (ahead_one_way n i e)), rank_less n i n l e))
      (λ e.
      let f : ahead r i n ≡ true = ahead_either n i l e in
      inr (omega (arith, rank_more n i, ap one_if f), count_le (ahead r n) (ahead r i) n (λ k _ g. ahead_on i n k f g)))
      (cases_Bool (ahead r n i))

  -- With a place n more, the tests of the places below n are those for k or for k - 1, as place n has a rank below k or not.
  pub ranked : (n k : ℕ) → k ≤ n → count_by (λ i. nat_lt (rank_of r n i) k) (range_with_len 0 n) ≡ k
  ranked =
      by_count (λ n. (k : ℕ) → k ≤ n → count_by (λ i. nat_lt (rank_of r n i) k) (range_with_len 0 n) ≡ k) (λ k h. omega arith)
      (λ n before k h.
      let new = λ (i : ℕ). nat_lt (rank_of r (n + 1) i) k in
      let more = count_more new n in
      let last = last_rank n in
      ⊎_elim
      (λ (l : rank_of r n n < k).
      let same = count_same new (λ i. nat_lt (rank_of r n i) (k - 1)) n (λ i m. let t = sides n i m in grind (arith, nat_tests)) in
      grind (arith, nat_tests, before (k - 1) (omega arith)))
      (λ (l : k ≤ rank_of r n n).
      let same = count_same new (λ i. nat_lt (rank_of r n i) k) n (λ i m. let t = sides n i m in grind (arith, nat_tests)) in
      grind (arith, nat_tests, before k (omega (arith, count_within (ahead r n) n))))
      (cases_lt (rank_of r n n) k))
