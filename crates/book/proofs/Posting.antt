-- Balances, account by account. Assumes nothing.
use Rattle.std.proofs.Common.{◌≡◌, ◌≢◌, ℕ, ◌+◌, ◌<◌, ◌≤◌, List, length, get_or, set, ℤ, pos, ◌+ℤ◌, nat_abs, w64, SFits, to_z, of_z, ap₂}
use Rattle.std.proofs.Common.{◌∙◌, get_or-set_other, length-set, refl, arith}
use Rattle.std.proofs.lemmas.Int.{ints}
use Rattle.book.proofs.RowWrites.{place_next}
use Rattle.book.proofs.Summing.{added, added_fits}

-- the first accounts have got what they get, the others are as they were
pub record Posted (old : List ℤ) (gets : ℕ → ℤ) (count : ℕ) (new : List ℤ) : Type 0 where
  pub places : length new ≡ 13
  pub posted : (k : ℕ) → k < count → get_or new k (pos 0) ≡ get_or old k (pos 0) +ℤ gets k
  pub others : (k : ℕ) → count ≤ k → get_or new k (pos 0) ≡ get_or old k (pos 0)

pub posted_none : (old : List ℤ) (gets : ℕ → ℤ) → length old ≡ 13 → Posted old gets 0 old
posted_none old gets l = record { places = l; posted = λ k h. absurd (omega arith); others = λ k h. refl }

-- one more account's balance, added up in 64 bits
module _ (old : List ℤ) (gets : ℕ → ℤ) (count : ℕ) (new : List ℤ) (more : ℤ) (few : count < 13) (p : Posted old gets count new)
    (got : more ≡ gets count) (small : nat_abs more ≤ 10000000000000000)
    (fits : nat_abs (get_or old count (pos 0) +ℤ gets count) ≤ 4000000000000000000) where
  abbrev balance : ℤ
  balance = get_or new count (pos 0)

  together : balance +ℤ more ≡ get_or old count (pos 0) +ℤ gets count
  together = ap₂ ◌+ℤ◌ (p.others count (omega arith)) got

  balance_size : nat_abs balance ≤ 4500000000000000000
  balance_size = let h : nat_abs (balance +ℤ more) ≤ 4000000000000000000 = rw together fits in omega (arith, ints)

  pub post_fits : SFits w64 (to_z w64 (of_z w64 balance) +ℤ to_z w64 (of_z w64 more))
  post_fits = added_fits balance more balance_size (omega arith)

  pub posted_more : Posted old gets (count + 1)
      (set new count (to_z w64 (of_z w64 (to_z w64 (of_z w64 balance) +ℤ to_z w64 (of_z w64 more)))))
  posted_more =
      let e = added balance more balance_size (omega arith) ∙ together in
      record {
        places = simp length-set p.places;
        posted =
            place_next (pos 0) new count _ (λ k x. x ≡ get_or old k (pos 0) +ℤ gets k) (omega (arith, p.places)) e p.posted;
        others = λ k h. let ne : k ≢ count = omega arith in rw get_or-set_other (p.others k (omega arith));
      }
