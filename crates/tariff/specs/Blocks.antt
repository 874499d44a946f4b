-- The hours of a day and the two blocks that they make up. Assumes nothing.
use Rattle.std.specs.Prelude.{ℕ, ◌-◌, Bool, true, false, if◌then◌else◌, ◌&&◌, Some, None, Option, nat_le}
use Rattle.tariff.specs.Answers.{Answer, require}
use Rattle.tariff.specs.declared.blocks.Block.{Block}
use Rattle.tariff.specs.declared.blocks.Block.TheVariants.{Heavy, Light}
use Rattle.tariff.specs.declared.blocks.DayKind.{DayKind}
use Rattle.tariff.specs.declared.blocks.DayKind.TheVariants.{Workday, Sunday}
use Rattle.tariff.specs.declared.refusal.Refusal.TheVariants.{Hour}

-- the days of a pool are numbered from 1
abbrev pub last_day : ℕ
last_day = 4000

-- the hours of a day are numbered from 1, each by the time at which it ends
abbrev pub hours_of_day : ℕ
hours_of_day = 24

abbrev pub is_hour : ℕ → Bool
is_hour hour = nat_le 1 hour && nat_le hour hours_of_day

-- where it stands in a table of a day's hours
abbrev pub place_of : ℕ → Option ℕ
place_of hour = if is_hour hour then Some (hour - 1) else None

-- on a workday the hours 7 to 22 are heavy; every other hour is light, and so are all hours of Sundays and holidays
abbrev pub block_of : DayKind → ℕ → Block
block_of Workday hour = if nat_le 7 hour && nat_le hour 22 then Heavy else Light
block_of Sunday hour = Light

abbrev pub same_block : Block → Block → Bool
same_block Heavy Heavy = true
same_block Light Light = true
same_block _ _ = false

abbrev pub block_answer : ℕ → Answer
block_answer hour = require (is_hour hour) (Hour 1)
