-- The size of an energy price. Assumes nothing.
use Rattle.std.proofs.Common.{◌≤◌, ℤ, pos, negsuc, nat_abs, ◌≤ℤ◌, arith}
use Rattle.std.proofs.lemmas.Int.{ints}
use Rattle.std.proofs.lemmas.Bool.Decides.{nat_tests}
use Rattle.tariff.specs.Prices.{energy_price}
use Rattle.tariff.specs.declared.prices.Terms.{Terms}

-- an energy price lies within the limits of a price, since the total price is not negative
pub energy_size : (terms : Terms) (total real_time : ℤ) → pos 0 ≤ℤ total → nat_abs real_time ≤ 1000000
    → nat_abs (energy_price terms total real_time) ≤ 1000000
energy_size terms (pos t) (pos r) low h = grind (arith, nat_tests)
energy_size terms (pos t) (negsuc r) low h = h
energy_size terms (negsuc t) real_time low h = absurd (omega (arith, ints))
