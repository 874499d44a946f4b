-- One more figure in a sum, and in the greatest of some, as a loop takes it. Assumes nothing.
use Rattle.std.proofs.Common.{◌≡◌, ℕ, suc, ◌+◌, max, ℤ, ◌+ℤ◌, ap₂, add-one, arith}
use Rattle.tally.specs.Numbered.{total, total_z, greatest}
use Rattle.tally.proofs.Numbering.{total_more, total_z_more, greatest_more}

pub total_step : (f : ℕ → ℕ) (n x y : ℕ) → x ≡ total f n → y ≡ f (suc n) → x + y ≡ total f (n + 1)
total_step f n x y a b = rw add-one (omega (arith, total_more f n, a, b))

pub greatest_step : (f : ℕ → ℕ) (n x y : ℕ) → x ≡ greatest f n → y ≡ f (suc n) → max x y ≡ greatest f (n + 1)
greatest_step f n x y a b = rw add-one (omega (arith, greatest_more f n, a, b))

pub total_z_step : (f : ℕ → ℤ) (n : ℕ) (x y : ℤ) → x ≡ total_z f n → y ≡ f (suc n) → x +ℤ y ≡ total_z f (n + 1)
total_z_step f n x y a b = rw (add-one, total_z_more f n) (ap₂ ◌+ℤ◌ a b)
