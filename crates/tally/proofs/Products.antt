-- The size of a product of signed numbers. Assumes nothing.
use Rattle.std.proofs.Common.{◌≡◌, ℕ, zero, suc, ◌*◌, ◌≤◌, ℤ, pos, negsuc, ◌*ℤ◌, neg_ℤ, nat_abs, refl, mul-le-mul, arith}

abs_neg : (n : ℕ) → nat_abs (neg_ℤ (pos n)) ≡ n
abs_neg zero = refl
abs_neg (suc n) = refl

pub abs_mul : (a b : ℤ) → nat_abs (a *ℤ b) ≡ nat_abs a * nat_abs b
abs_mul (pos a) (pos b) = refl
abs_mul (pos a) (negsuc b) = abs_neg (a * suc b)
abs_mul (negsuc a) (pos b) = abs_neg (suc a * b)
abs_mul (negsuc a) (negsuc b) = refl

-- a product of two bounded numbers is bounded
pub product_le : (a b most_a most_b most : ℕ) → a ≤ most_a → b ≤ most_b → most_a * most_b ≤ most → a * b ≤ most
product_le a b most_a most_b most p q h = let m : a * b ≤ most_a * most_b = mul-le-mul p q in omega arith
