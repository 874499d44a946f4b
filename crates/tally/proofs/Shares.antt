-- What a lawful rule's shares keep, by party number. Assumes nothing.
use Rattle.std.proofs.Common.{◌≡◌, ℕ, zero, suc, ◌+◌, ◌*◌, ◌<◌, ◌≤◌, List, [], ◌∷◌, length, get_or, sum, sym, refl, ◌∙◌}
use Rattle.std.proofs.Common.{subst, ⊎_elim, mul-le-mul_right, mul_comm, add-mul, lt_of_mul-lt-mul_right, arith}
use Rattle.std.proofs.lemmas.Bool.{cases_lt}
use Rattle.tariff.specs.Answers.{granted}
use Rattle.tariff.specs.Division.{Division, Lawful, LawfulRule, division_answer, gap}
use Rattle.tally.specs.Numbered.{total, listed, numbered}
use Rattle.tally.proofs.Numbering.{length_listed, slice_index_listed, sum_listed, total_numbered}

-- a share within one unit of its part is at most its claim, where the total is at most the sum of the claims
share_le : (s w t all : ℕ) → gap (s * all) (t * w) < all → t ≤ all → s ≤ w
share_le s w t all near le =
    let a : t * w ≤ all * w = mul-le-mul_right w le in
    let b : all * w ≡ w * all = mul_comm all w in
    let d : (w + 1) * all ≡ w * all + 1 * all = add-mul w 1 all in
    let e : s * all < (w + 1) * all = omega arith in
    let f : s < w + 1 = lt_of_mul-lt-mul_right all e in
    omega arith

get_d_past : (list : List ℕ) (i : ℕ) → length list ≤ i → get_or list i 0 ≡ 0
get_d_past [] i l = refl
get_d_past (x ∷ xs) zero l = absurd (omega arith)
get_d_past (x ∷ xs) (suc i) l = get_d_past xs i (omega arith)

-- an accepted division among figures by number keeps the law
pub accepted : (most amount : ℕ) (rule : Division) (f : ℕ → ℕ) (n : ℕ) → LawfulRule most rule
    → division_answer most amount (listed f n) n ≡ granted → Lawful amount (listed f n) (rule amount (listed f n))
accepted most amount rule f n lawful ok =
    lawful amount (listed f n) (subst (λ k. division_answer most amount (listed f n) k ≡ granted) (sym (length_listed f n)) ok)

module _ (f : ℕ → ℕ) (n t : ℕ) (shares : List ℕ) (lawful : Lawful t (listed f n) shares) where
  long : length shares ≡ n
  long = lawful.places ∙ length_listed f n

  pub shares_total : total (numbered shares) n ≡ t
  shares_total = total_numbered shares n long ∙ lawful.adds

  -- a number above the last has no share
  pub shares_absent : (p : ℕ) → n < p → numbered shares p ≡ 0
  shares_absent zero l = refl
  shares_absent (suc i) l = get_d_past shares i (omega (arith, long))

  within_at : t ≤ total f n → (i : ℕ) → i < n → get_or shares i 0 ≤ f (suc i)
  within_at le i l =
      let e = sum_listed f n in
      let g = slice_index_listed f n i l in
      let m : i < length (listed f n) = omega (arith, length_listed f n) in
      ⊎_elim
      (λ (h : 0 < sum (listed f n)).
      omega (arith, share_le (get_or shares i 0) (get_or (listed f n) i 0) t (sum (listed f n)) (lawful.near h i m) (omega arith)))
      (λ (h : sum (listed f n) ≤ 0). omega (arith, lawful.none (omega arith) (omega arith) i m))
      (cases_lt 0 (sum (listed f n)))

  -- where the total is at most what is claimed, no share passes its claim
  pub shares_within : t ≤ total f n → (p : ℕ) → numbered shares p ≤ f p
  shares_within le zero = omega arith
  shares_within le (suc i) =
      ⊎_elim
      (λ (l : i < n). within_at le i l)
      (λ (l : n ≤ i). omega (arith, shares_absent (suc i) (omega arith)))
      (cases_lt i n)
