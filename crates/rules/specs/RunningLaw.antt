-- Running total keeps the law. Assumes nothing.
use Rattle.std.specs.Prelude.{◌≡◌, ℕ, zero, suc, ◌+◌, ◌-◌, ◌*◌, ◌/◌, ◌<◌, ◌≤◌, List, map, length, take, sum, slice_index}
use Rattle.std.proofs.Common.{take_all, ⊎_elim, sym, ap, ◌∙◌, add-mul, div-add-mod'}
use Rattle.std.proofs.Common.{div-mul-le_self, mod-lt, mul-div_cancel, mul-zero, zero-mul, arith}
use Rattle.std.proofs.Math.Nat.{div-zero, zero-div}
use Rattle.std.specs.List.{range_with_len}
use Rattle.std.proofs.lemmas.Nat.{le-div}
use Rattle.std.proofs.lemmas.List.FromFn.{sum_by-map-range_with_len_more}
use Rattle.tariff.specs.Division.{LawfulRule, gap}
use Rattle.rules.specs.RunningTotal.{reached, running, running_share}
use Rattle.rules.specs.Accepting.{Claimed, claimed, claimed_or_none, lawful_by, product_more}
use Rattle.rules.specs.Counts.{by_count}

-- whole parts keep the order
div_mono : (m n k : ℕ) → m ≤ n → m / k ≤ n / k
div_mono m n zero h = rw (div-zero m, div-zero n) (omega arith)
div_mono m n (suc k) h = le-div (m / suc k) n (suc k) (omega arith) (omega (arith, div-mul-le_self m (suc k)))

-- two whole parts differ by what lies between them, to within one
near_between : (a b c W : ℕ) → 0 < W → b ≡ a + c → gap ((b / W - a / W) * W) c < W
near_between a b c W h e =
    let m = div_mono a b W (omega arith) in
    let d : (b / W - a / W) * W + a / W * W ≡ b / W * W = sym (add-mul (b / W - a / W) (a / W) W) ∙ ap (λ n. n * W) (omega arith) in
    omega (arith, div-add-mod' a W, div-add-mod' b W, mod-lt a h, mod-lt b h)

module _ (T : ℕ) (ws : List ℕ) where
  pub reached_mono : (i : ℕ) → i < length ws → reached T ws i ≤ reached T ws (i + 1)
  reached_mono i h = div_mono _ _ (sum ws) (omega (arith, product_more T ws i h))

  reached_none : reached T ws 0 ≡ 0
  reached_none = rw (mul-zero T, zero-div (sum ws))

  reached_all : Claimed T ws → reached T ws (length ws) ≡ T
  reached_all ok =
      ⊎_elim
      (λ (h : 0 < sum ws). rw (take_all (length ws) ws (omega arith)) (mul-div_cancel T h))
      (λ (z : T ≡ 0). rw (z, zero-mul, zero-div))
      (claimed_or_none T ws ok)

  -- the shares of the first n places come to what those places have reached
  front_adds : (n : ℕ) → n ≤ length ws → sum (map (running_share T ws) (range_with_len 0 n)) ≡ reached T ws n
  front_adds =
      by_count (λ n. n ≤ length ws → sum (map (running_share T ws) (range_with_len 0 n)) ≡ reached T ws n)
      (λ _. omega (arith, reached_none))
      (λ n before h.
      let more = sum_by-map-range_with_len_more (λ x. x) (running_share T ws) 0 n n (omega arith) in
      omega (arith, reached_mono n (omega arith), before (omega arith)))

pub running_lawful : LawfulRule 12 running
running_lawful T ws ok =
    lawful_by (running_share T ws) T ws (front_adds T ws (length ws) (omega arith) ∙ reached_all T ws (claimed 12 T ws ok))
    (λ h i l. near_between (T * sum (take i ws)) (T * sum (take (i + 1) ws)) (T * slice_index ws i) (sum ws) h (product_more T ws i l))
