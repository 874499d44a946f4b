-- What an accepted division keeps, what claims within their limit come to, and the law for shares told by place. Assumes nothing.
use Rattle.std.specs.Prelude.{◌≡◌, ℕ, nat_le, ◌+◌, ◌*◌, ◌<◌, ◌≤◌, true, ◌⊎◌, List, [], ◌∷◌, map, length, take, sum, slice_index}
use Rattle.std.proofs.Common.{inl, inr, ⊎_elim, ap, ◌∙◌, mul-add, arith}
use Rattle.std.specs.List.{range_with_len}
use Rattle.std.proofs.lemmas.List.FromFn.{get_or-map-range_with_len, length-map-range_with_len}
use Rattle.std.proofs.lemmas.List.Sums.{get_or-le-sum_by, sum_by-cons, sum_by_more}
use Rattle.std.proofs.lemmas.Bool.{and_parts, cases_lt, leb-true}
use Rattle.std.proofs.lemmas.Bool.Decides.{nat_tests}
use Rattle.tariff.specs.Division.{Accepted, Lawful, all_within, gap, most_claim}

-- nothing to divide where the claims come to 0
abbrev pub Claimed : ℕ → List ℕ → Type 0
Claimed total claims = sum claims ≡ 0 → total ≡ 0

pub claimed : (most total : ℕ) (claims : List ℕ) → Accepted most total claims → Claimed total claims
claimed most total claims ok h = grind (arith, nat_tests)

pub claimed_or_none : (total : ℕ) (claims : List ℕ) → Claimed total claims → (0 < sum claims) ⊎ (total ≡ 0)
claimed_or_none total claims ok = ⊎_elim inl (λ (h : sum claims ≤ 0). inr (ok (omega arith))) (cases_lt 0 (sum claims))

-- claims within their limit
pub sum_within : (claims : List ℕ) → all_within claims ≡ true → sum claims ≤ most_claim * length claims
sum_within [] h = omega arith
sum_within (w ∷ ws) h =
    let both = and_parts (nat_le w most_claim) (all_within ws) h in
    omega (arith, sum_by-cons (λ x. x) w ws, leb-true w most_claim both.0, sum_within ws both.1)

-- one claim more, times the total
pub product_more : (total : ℕ) (claims : List ℕ) (i : ℕ) → i < length claims →
    total * sum (take (i + 1) claims) ≡ total * sum (take i claims) + total * slice_index claims i
product_more total claims i h =
    ap (λ n. total * n) (sum_by_more (λ x. x) claims i 0 h) ∙ mul-add total (sum (take i claims)) (slice_index claims i)

-- shares that come to the total, each within one unit of its exact part, keep the law
pub lawful_by : (share : ℕ → ℕ) (total : ℕ) (claims : List ℕ) →
    sum (map share (range_with_len 0 (length claims))) ≡ total →
    (0 < sum claims → (i : ℕ) → i < length claims → gap (share i * sum claims) (total * slice_index claims i) < sum claims) →
    Lawful total claims (map share (range_with_len 0 (length claims)))
lawful_by share total claims s near =
    let n = length-map-range_with_len share 0 (length claims) in
    record {
      places = n;
      adds = s;
      near = λ h i l. rw (get_or-map-range_with_len share 0 (length claims) i i 0 l (omega arith)) (near h i l);
      none = λ _ z i l. omega (arith, get_or-le-sum_by (λ x. x) (map share (range_with_len 0 (length claims))) i 0 (omega arith));
    }
