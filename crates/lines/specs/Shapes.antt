-- The letter of each shape of line, what its fields may be, and the shape of each entry. Assumes nothing.
use Rattle.std.specs.Prelude.{ℕ, List, [], ◌∷◌}
use Rattle.book.specs.declared.entry.Entry.TheVariants as call
use Rattle.lines.specs.declared.entry.LineEntry.{LineEntry}
use Rattle.lines.specs.declared.entry.LineEntry.TheVariants as entry
use Rattle.lines.specs.declared.shape.Kind.{Kind}
use Rattle.lines.specs.declared.shape.Kind.TheVariants.{Figure, Price, Day, Cover}
use Rattle.lines.specs.declared.shape.Shape.{Shape}
use Rattle.lines.specs.declared.shape.Shape.TheVariants.{SetUp, Open, Result, Offer, Request, Allot, Deploy, Miss}
use Rattle.lines.specs.declared.shape.Shape.TheVariants.{Close, Void, Year, DayPrices, HourPrices}

-- S, D, R, V, C, A, E, F, Z, X, Y, P, H
abbrev pub letter_of : Shape → ℕ
letter_of SetUp = 83
letter_of Open = 68
letter_of Result = 82
letter_of Offer = 86
letter_of Request = 67
letter_of Allot = 65
letter_of Deploy = 69
letter_of Miss = 70
letter_of Close = 90
letter_of Void = 88
letter_of Year = 89
letter_of DayPrices = 80
letter_of HourPrices = 72

-- what the fields behind the letter may be
abbrev pub kinds_of : Shape → List Kind
kinds_of SetUp = Figure ∷ Figure ∷ Figure ∷ []
kinds_of Open = Figure ∷ Day ∷ Figure ∷ []
kinds_of Result = Figure ∷ Figure ∷ Figure ∷ []
kinds_of Offer = Figure ∷ Figure ∷ Figure ∷ []
kinds_of Request = Figure ∷ Figure ∷ Figure ∷ []
kinds_of Allot = Figure ∷ []
kinds_of Deploy = Figure ∷ Figure ∷ Figure ∷ []
kinds_of Miss = Figure ∷ Figure ∷ Figure ∷ Figure ∷ Cover ∷ []
kinds_of Close = []
kinds_of Void = []
kinds_of Year = []
kinds_of DayPrices = Figure ∷ Price ∷ Price ∷ []
kinds_of HourPrices = Figure ∷ Figure ∷ Price ∷ Price ∷ []

abbrev pub shape_of : LineEntry → Shape
shape_of (entry.SetUp parties full_rate step_rate) = SetUp
shape_of (entry.Call (call.Open day kind month)) = Open
shape_of (entry.Call (call.Result hour party mw)) = Result
shape_of (entry.Call (call.Offer hour party mw)) = Offer
shape_of (entry.Call (call.Request hour party mw)) = Request
shape_of (entry.Call (call.Allot hour)) = Allot
shape_of (entry.Call (call.Deploy hour buyer mw)) = Deploy
shape_of (entry.Call (call.Miss hour seller buyer mwh cover)) = Miss
shape_of (entry.Call call.Close) = Close
shape_of (entry.Call call.Void) = Void
shape_of (entry.Call call.Year) = Year
shape_of (entry.DayPrices day heavy light) = DayPrices
shape_of (entry.HourPrices first last real_time factor) = HourPrices
