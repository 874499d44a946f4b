-- The pages of a statement, which its caller lends. Assumes nothing.
use Rattle.std.specs.Prelude.{◌≡◌, List}
use Rattle.book.specs.MadeFrom.{PageChange}
use Rattle.book.specs.declared.payment.Payment.{Payment}
use Rattle.book.specs.declared.statement.Statement.{Statement}

-- what stands on each page
abbrev pub heavy_entries : Statement → List Payment
heavy_entries statement = statement.heavy.now.entries.now

abbrev pub light_entries : Statement → List Payment
light_entries statement = statement.light.now.entries.now

-- each page before and after a call
abbrev pub heavy_change : (before after : Statement) → PageChange
heavy_change before after = record { old = heavy_entries before; new = heavy_entries after }

abbrev pub light_change : (before after : Statement) → PageChange
light_change before after = record { old = light_entries before; new = light_entries after }

-- A statement still holds the pages that it was made of, and they the slices that they were made of: so what a call
-- writes stands in the slices of whoever lent them.
pub record SameLenders (before after : Statement) : Type 0 where
  pub heavy_page : after.heavy.ghost_name ≡ before.heavy.ghost_name
  pub light_page : after.light.ghost_name ≡ before.light.ghost_name
  pub heavy_slice : after.heavy.now.entries.ghost_name ≡ before.heavy.now.entries.ghost_name
  pub light_slice : after.light.now.entries.ghost_name ≡ before.light.now.entries.ghost_name
