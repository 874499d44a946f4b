-- The units left go to the largest remainders. Assumes nothing.
use Rattle.std.proofs.Common.{◌≡◌, ℕ, ◌+◌, ◌<◌, ◌≤◌, Bool, true, false, ltb, ◌⊎◌, List, length}
use Rattle.std.proofs.Common.{get_or, sym, refl, ap, ◌∙◌, inl, inr, ⊎_elim, arith}
use Rattle.std.proofs.lemmas.List.FromFn.{get_or-map-range_with_len}
use Rattle.std.proofs.lemmas.Bool.{cases_Bool}
use Rattle.std.proofs.lemmas.Bool.Decides.{nat_tests}
use Rattle.rules.specs.LargestRemainder.{LargestFirst, UnitsToLargest, ahead, largest, largest_share}
use Rattle.rules.specs.LargestRemainder.{rank_of, remainder, units_left, whole_part}
use Rattle.rules.specs.Counts.{one_if}
use Rattle.rules.specs.Ranks.{rank_less}

-- of two places, one that has the lower rank comes before the other
lower_first : (key : ℕ → ℕ) (n i j : ℕ) → i < n → j < n → rank_of key n i < rank_of key n j → (key j < key i) ⊎ ((key j ≡ key i) × (i < j))
lower_first key n i j l m h =
    ⊎_elim
    (λ (e : ahead key j i ≡ true). grind (arith, nat_tests))
    (λ (e : ahead key j i ≡ false).
    ⊎_elim
    (λ (f : ahead key i j ≡ true). absurd (omega (arith, rank_less key n j i m f)))
    (λ (f : ahead key i j ≡ false). let same : i ≡ j = grind (arith, nat_tests) in absurd (omega (arith, ap (rank_of key n) same)))
    (cases_Bool (ahead key i j)))
    (cases_Bool (ahead key j i))

-- a unit or none, and what each tells of the test
unit_or_none : (w : ℕ) (b : Bool) → (w + one_if b ≡ w) ⊎ (w + one_if b ≡ w + 1)
unit_or_none w true = inr refl
unit_or_none w false = inl (omega arith)

unit_if : (w a b : ℕ) → w + one_if (ltb a b) ≡ w + 1 → a < b
unit_if w a b e = grind (arith, nat_tests)

none_if : (w a b : ℕ) → w + one_if (ltb a b) ≡ w → b ≤ a
none_if w a b e = grind (arith, nat_tests)

module _ (total : ℕ) (claims : List ℕ) where
  share_at : (i : ℕ) → i < length claims → get_or (largest total claims) i 0 ≡ largest_share total claims i
  share_at i l = get_or-map-range_with_len (largest_share total claims) 0 (length claims) i i 0 l (omega arith)

  abbrev rank : ℕ → ℕ
  rank i = rank_of (remainder total claims) (length claims) i

  to_largest : UnitsToLargest total claims
  to_largest =
      record {
        single = λ i l. rw (share_at i l) (unit_or_none (whole_part total claims i) (ltb (rank i) (units_left total claims)));
        larger = λ i j l m more none.
            let low = unit_if (whole_part total claims i) (rank i) (units_left total claims) (sym (share_at i l) ∙ more) in
            let high = none_if (whole_part total claims j) (rank j) (units_left total claims) (sym (share_at j m) ∙ none) in
            lower_first (remainder total claims) (length claims) i j l m (omega arith);
      }

pub largest_first : LargestFirst
largest_first total claims = to_largest total claims
