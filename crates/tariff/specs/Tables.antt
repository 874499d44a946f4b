-- What a price source means: three tables whose places hold a figure or are missing. Assumes nothing.
use Rattle.std.specs.Prelude.{◌≡◌, ℕ, ◌≤◌, ℤ, Some, Option, unsigned_abs}
use Rattle.tariff.specs.Prices.{most_price, most_factor}
use Rattle.tariff.specs.declared.blocks.Block.{Block}

-- day-ahead prices by day and block, real-time prices and shaping factors by day and hour
pub record Tables : Type 0 where
  pub day_ahead : ℕ → Block → Option ℤ
  pub real_time : ℕ → ℕ → Option ℤ
  pub factor : ℕ → ℕ → Option ℕ

-- a price, unless it is missing, lies within its limits
abbrev pub Priced : Option ℤ → Type 0
Priced place = (price : ℤ) → place ≡ Some price → unsigned_abs price ≤ most_price

-- and so does a shaping factor
abbrev pub Factored : Option ℕ → Type 0
Factored place = (factor : ℕ) → place ≡ Some factor → factor ≤ most_factor

-- the limits that every source keeps
pub record Limited (tables : Tables) : Type 0 where
  pub day_ahead : (day : ℕ) (block : Block) → Priced (tables.day_ahead day block)
  pub real_time : (day hour : ℕ) → Priced (tables.real_time day hour)
  pub factor : (day hour : ℕ) → Factored (tables.factor day hour)
