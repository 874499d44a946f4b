-- The table of delivery factors. Assumes nothing.
use Rattle.std.specs.Prelude.{ℕ, if◌then◌else◌, ◌==◌, nat_le}
use Rattle.tariff.specs.declared.charges.Cover.{Cover}
use Rattle.tariff.specs.declared.charges.Cover.TheVariants.{Covered, Uncovered}

-- one row: by the first, the second and every later failure day of a year
abbrev pub by_failure_day : ℕ → (first second later : ℕ) → ℕ
by_failure_day day first second later = if nat_le day 1 then first else (if day == 2 then second else later)

-- missed energy that others covered, and that nobody covered
abbrev pub delivery_factor : ℕ → Cover → ℕ
delivery_factor day Covered = by_failure_day day 5 10 20
delivery_factor day Uncovered = by_failure_day day 25 50 50
