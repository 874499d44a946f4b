-- The values that the line of an entry has behind its letter. Assumes nothing.
use Rattle.std.specs.Prelude.{List, [], ◌∷◌, ℤ, Some, None, Option}
use Rattle.book.specs.declared.entry.Entry.TheVariants as call
use Rattle.lines.specs.declared.entry.LineEntry.{LineEntry}
use Rattle.lines.specs.declared.entry.LineEntry.TheVariants.{SetUp, DayPrices, HourPrices, Call}
use Rattle.lines.specs.declared.value.Value.{Value}
use Rattle.lines.specs.declared.value.Value.TheVariants.{Figure, Missing, Day, Cover}

-- a price or a factor, which may be missing
abbrev pub price_value : Option ℤ → Value
price_value (Some figure) = Figure figure
price_value None = Missing

abbrev pub values_of : LineEntry → List Value
values_of (SetUp parties full_rate step_rate) = Figure parties ∷ Figure full_rate ∷ Figure step_rate ∷ []
values_of (Call (call.Open day kind month)) = Figure day ∷ Day kind ∷ Figure month ∷ []
values_of (Call (call.Result hour party mw)) = Figure hour ∷ Figure party ∷ Figure mw ∷ []
values_of (Call (call.Offer hour party mw)) = Figure hour ∷ Figure party ∷ Figure mw ∷ []
values_of (Call (call.Request hour party mw)) = Figure hour ∷ Figure party ∷ Figure mw ∷ []
values_of (Call (call.Allot hour)) = Figure hour ∷ []
values_of (Call (call.Deploy hour buyer mw)) = Figure hour ∷ Figure buyer ∷ Figure mw ∷ []
values_of (Call (call.Miss hour seller buyer mwh cover)) =
    Figure hour ∷ Figure seller ∷ Figure buyer ∷ Figure mwh ∷ Cover cover ∷ []
values_of (Call call.Close) = []
values_of (Call call.Void) = []
values_of (Call call.Year) = []
values_of (DayPrices day heavy light) = Figure day ∷ price_value heavy ∷ price_value light ∷ []
values_of (HourPrices first last real_time factor) =
    Figure first ∷ Figure last ∷ price_value real_time ∷ price_value factor ∷ []
