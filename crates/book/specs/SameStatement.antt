-- What an accepted close leaves on its two pages. Assumes nothing.
use Rattle.std.specs.Prelude.{◌≡◌, ℕ, ◌<◌, ◌≤◌}
use Rattle.tariff.specs.declared.blocks.Block.{Block}
use Rattle.tally.specs.Statements.{Statement}

-- the two pages say the same at each of their entries: for each seller and buyer of twelve
abbrev pub SameStatement : Statement → Statement → Type 0
SameStatement pages statement =
    (block : Block) (seller buyer : ℕ) → 0 < seller → seller ≤ 12 → 0 < buyer → buyer ≤ 12
    → pages block seller buyer ≡ statement block seller buyer
