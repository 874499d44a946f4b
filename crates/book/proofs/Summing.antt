-- Signed sums, term by term. Assumes nothing.
use Rattle.std.proofs.Common.{◌≡◌, ℕ, suc, ◌+◌, ◌*◌, ◌<◌, ◌≤◌, ℤ, pos, ◌+ℤ◌, nat_abs, w64, SFits, to_z, of_z, sym, ap, ap₂, ◌∙◌}
use Rattle.std.proofs.Common.{mul-le-mul_right, arith}
use Rattle.std.proofs.lemmas.Int.{ints, to_z-of_z}
use Rattle.tally.specs.Numbered.{total_z}
use Rattle.tally.proofs.Numbering.{total_z_none, add_size}
use Rattle.book.proofs.Steps.{total_z_step}

-- a sum of so many terms, each of which is at most so large
pub record Summed (f : ℕ → ℤ) (most count : ℕ) (sum : ℤ) : Type 0 where
  pub value : sum ≡ total_z f count
  pub size : nat_abs sum ≤ count * most

pub summed_none : (f : ℕ → ℤ) (most : ℕ) → Summed f most 0 (pos 0)
summed_none f most = record { value = sym (total_z_none f); size = omega arith }

pub small_fits : (z : ℤ) → nat_abs z ≤ 9000000000000000000 → SFits w64 z
small_fits z h = omega (arith, ints)

-- one more term, added up in 64 bits
pub summed_more : (f : ℕ → ℤ) (most count : ℕ) (sum term : ℤ) → count < 12 → most ≤ 100000000000000000
    → Summed f most count sum → term ≡ f (suc count) → nat_abs term ≤ most
    → Summed f most (count + 1) (to_z w64 (of_z w64 (sum +ℤ to_z w64 (of_z w64 term))))
summed_more f most count sum term few small s e h =
    let more : (count + 1) * most ≡ count * most + most = omega arith in
    let all : (count + 1) * most ≤ 12 * most = mul-le-mul_right most (omega arith) in
    let size : nat_abs (sum +ℤ term) ≤ count * most + most = add_size sum term (count * most) most s.size h in
    let term_fits : SFits w64 term = small_fits term (omega arith) in
    let sum_fits : SFits w64 (sum +ℤ term) = small_fits (sum +ℤ term) (omega arith) in
    let kept : to_z w64 (of_z w64 (sum +ℤ to_z w64 (of_z w64 term))) ≡ sum +ℤ term =
    ap (λ t. to_z w64 (of_z w64 (sum +ℤ t))) (to_z-of_z w64 term term_fits) ∙ to_z-of_z w64 (sum +ℤ term) sum_fits in
    record {
      value = kept ∙ total_z_step f count sum term s.value e;
      size = rw kept (omega (arith, more, size));
    }

-- a sum of two, added up in 64 bits
module _ (x y : ℤ) (p : nat_abs x ≤ 4500000000000000000) (q : nat_abs y ≤ 4500000000000000000) where
  taken_back : to_z w64 (of_z w64 x) +ℤ to_z w64 (of_z w64 y) ≡ x +ℤ y
  taken_back =
      let a : SFits w64 x = small_fits x (omega arith) in
      let b : SFits w64 y = small_fits y (omega arith) in
      ap₂ ◌+ℤ◌ (to_z-of_z w64 x a) (to_z-of_z w64 y b)

  sum_fits : SFits w64 (x +ℤ y)
  sum_fits = small_fits (x +ℤ y) (omega (arith, add_size x y 4500000000000000000 4500000000000000000 p q))

  pub added_fits : SFits w64 (to_z w64 (of_z w64 x) +ℤ to_z w64 (of_z w64 y))
  added_fits = rw taken_back sum_fits

  pub added : to_z w64 (of_z w64 (to_z w64 (of_z w64 x) +ℤ to_z w64 (of_z w64 y))) ≡ x +ℤ y
  added = ap (λ s. to_z w64 (of_z w64 s)) taken_back ∙ to_z-of_z w64 (x +ℤ y) sum_fits
