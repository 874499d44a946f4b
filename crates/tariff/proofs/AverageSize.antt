-- The sum of four prices fits 64 bits, and their average is a price. Assumes nothing.
use Rattle.std.proofs.Common.{◌≡◌, ◌≤◌, ℤ, pos, negsuc, ◌+ℤ◌, nat_abs, ◌≤ℤ◌, w64, to_z, of_z, SFits, arith}
use Rattle.std.proofs.lemmas.Int.{ints}
use Rattle.std.specs.Int.{int_div_euclid}
use Rattle.tariff.specs.Prices.{most_price}
use Rattle.tariff.specs.Rounding.{nearest}

eighth_size : (m : ℤ) → negsuc 7999995 ≤ℤ m → m ≤ℤ pos 8000004 → nat_abs (int_div_euclid m (pos 8)) ≤ 1000000
eighth_size (pos a) low high = let h : a ≤ 8000004 = omega (arith, ints) in omega arith
eighth_size (negsuc a) low high = let h : a ≤ 7999995 = omega (arith, ints) in omega arith

pub average_size : (sum : ℤ) → nat_abs sum ≤ 4000000 → nat_abs (nearest sum (pos 4)) ≤ 1000000
average_size sum h = eighth_size (sum +ℤ sum +ℤ pos 4) (omega (arith, ints)) (omega (arith, ints))

-- the sum as the code adds it up, read back from 64 bits after each step
abbrev read : ℤ → ℤ
read n = to_z w64 (of_z w64 n)

module _ (p q r s : ℤ) (a : nat_abs p ≤ most_price) (b : nat_abs q ≤ most_price) (c : nat_abs r ≤ most_price) (d : nat_abs s ≤ most_price) where
  abbrev sum : ℤ
  sum = read (read (read p +ℤ read q) +ℤ read r) +ℤ read s

  pub sum_fits : SFits w64 sum
  sum_fits = omega (arith, ints)

  pub sum_kept : read sum ≡ p +ℤ q +ℤ r +ℤ s
  sum_kept = omega (arith, ints)

  pub sum_size : nat_abs (read sum) ≤ 4000000
  sum_size = omega (arith, ints)
