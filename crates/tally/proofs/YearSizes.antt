-- What a year keeps is small. Assumes nothing.
use Rattle.std.proofs.Common.{◌≡◌, ℕ, ◌+◌, ◌-◌, ◌*◌, ◌≤◌, mul-le-mul_right, mul-add, arith}
use Rattle.tally.specs.Charges.{ceiling_of, month_miss}
use Rattle.tally.specs.Numbered.{total, greatest}
use Rattle.tally.specs.SizeLaws.{SmallYear, YearsFit}
use Rattle.tally.specs.States.{State, SetUp, Proper, months_of_year}
use Rattle.tally.proofs.Numbering.{greatest_le_total, total_bound}
use Rattle.tally.proofs.Products.{product_le}
use Rattle.tally.proofs.SetUps.{full_size, step_within_full}
use Rattle.tally.proofs.Sound.{Sound, sound, month_miss_size}

-- at no more than the full rate, a ceiling is at most all months at that rate
ceiling_within : (full step largest all : ℕ) → step ≤ full → largest ≤ all → full * largest + step * (all - largest) ≤ full * all
ceiling_within full step largest all o l =
    let e : largest + (all - largest) ≡ all = omega arith in
    let m = rw e at (mul-add full largest (all - largest)) in
    omega (arith, mul-le-mul_right (all - largest) o, m)

pub ceiling_size : (set_up : SetUp) → Proper set_up → (misses : ℕ → ℕ) → ((month : ℕ) → misses month ≤ 10000)
    → ceiling_of set_up misses ≤ 12000000000000
unfolding ceiling_of
ceiling_size set_up proper misses small =
    omega (
      arith,
      ceiling_within set_up.full set_up.step (greatest misses months_of_year) (total misses months_of_year)
          (step_within_full set_up proper) (greatest_le_total misses months_of_year),
      product_le set_up.full (total misses months_of_year) 100000000 120000 12000000000000 (full_size set_up proper)
          (total_bound misses 10000 months_of_year (λ k _ _. small k)) (omega arith),
    )

small_year : (state : State) → Sound state → (seller : ℕ) → SmallYear state seller
small_year state sound seller = record {
  failure_days = omega (arith, sound.failures seller, sound.number);
  misses = sound.misses seller;
  ceiling = ceiling_size state.set_up sound.proper (month_miss state seller) (month_miss_size state sound seller);
}

pub years_fit_lem : YearsFit
years_fit_lem set_up events proper lawful seller = small_year _ (sound set_up events proper lawful) seller
