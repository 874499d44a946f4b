-- The event that an entry is. Assumes nothing.
use Rattle.std.specs.Prelude.{ℕ}
use Rattle.tariff.specs.Division.{Division}
use Rattle.tariff.specs.Tables.{Tables}
use Rattle.tally.specs.Events.{Event, open_day, enter_result, enter_offer, enter_request, allot_hour, deploy, enter_miss, close_day}
use Rattle.tally.specs.Events.{void_day, start_year}
use Rattle.book.specs.declared.entry.Entry.{Entry}
use Rattle.book.specs.declared.entry.Entry.TheVariants.{Open, Result, Offer, Request, Allot, Deploy, Miss, Close, Void, Year}

-- Beside the entry: what its source means, how many claims above 0 its rule takes, what the rule means at each turn,
-- and how many entries the two pages have.
abbrev pub event_of : Entry → Tables → ℕ → (ℕ → Division) → (heavy_page light_page : ℕ) → Event
event_of (Open day kind month) tables most meanings heavy_page light_page = open_day day kind month
event_of (Result hour party mw) tables most meanings heavy_page light_page = enter_result hour party mw
event_of (Offer hour party mw) tables most meanings heavy_page light_page = enter_offer hour party mw
event_of (Request hour party mw) tables most meanings heavy_page light_page = enter_request hour party mw
event_of (Allot hour) tables most meanings heavy_page light_page = allot_hour hour most (meanings 0)
event_of (Deploy hour buyer mw) tables most meanings heavy_page light_page = deploy hour buyer mw most (meanings 0)
event_of (Miss hour seller buyer mwh cover) tables most meanings heavy_page light_page =
    enter_miss hour seller buyer mwh cover
event_of Close tables most meanings heavy_page light_page = close_day tables most meanings heavy_page light_page
event_of Void tables most meanings heavy_page light_page = void_day
event_of Year tables most meanings heavy_page light_page = start_year
