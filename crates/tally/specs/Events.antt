-- The ten calls of a book, each with what answered it: the meaning of the source and of the rule. Assumes nothing.
use Rattle.std.specs.Prelude.{ℕ, List, [], ◌∷◌, ℤ}
use Rattle.tariff.specs.Division.{Division, LawfulRule}
use Rattle.tariff.specs.Tables.{Tables, Limited}
use Rattle.tariff.specs.declared.blocks.DayKind.{DayKind}
use Rattle.tariff.specs.declared.charges.Cover.{Cover}

-- Figures are as they were entered. `most` is how many claims above 0 the rule takes, `meaning` what it meant when it was
-- called. A close has the meaning at each turn; `Turns` says how one follows from the other. It also has the number of
-- entries of each of its two pages.
pub data Event : Type 0 where
  open_day : (day : ℤ) (kind : DayKind) (month : ℤ) → Event
  enter_result : (hour party mw : ℤ) → Event
  enter_offer : (hour party mw : ℤ) → Event
  enter_request : (hour party mw : ℤ) → Event
  allot_hour : (hour : ℤ) (most : ℕ) (meaning : Division) → Event
  deploy : (hour buyer mw : ℤ) (most : ℕ) (meaning : Division) → Event
  enter_miss : (hour seller buyer mwh : ℤ) (cover : Cover) → Event
  close_day : (tables : Tables) (most : ℕ) (meanings : ℕ → Division) (heavy_page light_page : ℕ) → Event
  void_day : Event
  start_year : Event

-- any source and any rule may have answered, as long as they keep their laws
abbrev pub Lawfully : Event → Type 0
Lawfully (allot_hour hour most meaning) = LawfulRule most meaning
Lawfully (deploy hour buyer mw most meaning) = LawfulRule most meaning
Lawfully (close_day tables most meanings heavy_page light_page) = Limited tables × ((turn : ℕ) → LawfulRule most (meanings turn))
Lawfully _ = Unit {0}

-- of each event of a list
abbrev pub AllLawful : List Event → Type 0
AllLawful [] = Unit {0}
AllLawful (event ∷ events) = Lawfully event × AllLawful events
