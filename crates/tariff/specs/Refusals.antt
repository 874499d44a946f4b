-- The number, the two places, the text and the layer of each refusal. Assumes nothing.
use Rattle.std.specs.Prelude.{ℕ, List, ◌++◌, codes}
use Rattle.std.specs.Fmt.{decimal}
use Rattle.tariff.specs.declared.refusal.Layer.{Layer}
use Rattle.tariff.specs.declared.refusal.Layer.TheVariants.{LineWriter, SetUp, DayKeeper, Buyer, Seller, Pool, PriceSource, DivisionRule}
use Rattle.tariff.specs.declared.refusal.Quote.{Quote}
use Rattle.tariff.specs.declared.refusal.Quote.TheVariants.{DayAhead, RealTime, Factor}
use Rattle.tariff.specs.declared.refusal.Refusal.{Refusal}
use Rattle.tariff.specs.declared.refusal.Refusal.TheVariants.{LineTooLong, UnknownLetter, FieldCount, Misspelt, ShortTarget, Parties, Rates}
use Rattle.tariff.specs.declared.refusal.Refusal.TheVariants.{SecondSetUp, NotSetUp, PageSize, DayOpen, NoDayOpen, Day, Month, Hour, Party}
use Rattle.tariff.specs.declared.refusal.Refusal.TheVariants.{Figure, HourAllotted, HourNotAllotted, AboveShortfall, AboveRequest}
use Rattle.tariff.specs.declared.refusal.Refusal.TheVariants.{AboveDeployment, AboveSupply, MissingPrice, ShareLists, DivisionFigure}
use Rattle.tariff.specs.declared.refusal.Refusal.TheVariants.{NoClaims, TooManyClaims}

-- the number by which a refusal is told
abbrev pub number_of : Refusal → ℕ
number_of LineTooLong = 11
number_of UnknownLetter = 12
number_of FieldCount = 13
number_of (Misspelt position) = 14
number_of (ShortTarget needed) = 15
number_of Parties = 21
number_of Rates = 22
number_of SecondSetUp = 23
number_of NotSetUp = 24
number_of (PageSize count) = 25
number_of DayOpen = 31
number_of NoDayOpen = 32
number_of (Day position) = 33
number_of (Month position) = 34
number_of (Hour position) = 35
number_of (Party position) = 36
number_of (Figure position) = 37
number_of (HourAllotted hour) = 38
number_of (HourNotAllotted hour) = 39
number_of (AboveShortfall hour party) = 41
number_of (AboveRequest hour party) = 42
number_of (AboveDeployment seller buyer) = 51
number_of (AboveSupply hour short) = 61
number_of (MissingPrice hour quote) = 66
number_of ShareLists = 70
number_of DivisionFigure = 71
number_of NoClaims = 72
number_of (TooManyClaims count limit) = 73

-- what is missing, as the second place of a missing price tells it
abbrev pub quote_number : Quote → ℕ
quote_number DayAhead = 1
quote_number RealTime = 2
quote_number Factor = 3

-- where the entry is at fault: two places, 0 where the refusal names none
abbrev pub places_of : Refusal → ℕ × ℕ
places_of LineTooLong = (0, 0)
places_of UnknownLetter = (0, 0)
places_of FieldCount = (0, 0)
places_of (Misspelt position) = (position, 0)
places_of (ShortTarget needed) = (needed, 0)
places_of Parties = (0, 0)
places_of Rates = (0, 0)
places_of SecondSetUp = (0, 0)
places_of NotSetUp = (0, 0)
places_of (PageSize count) = (count, 0)
places_of DayOpen = (0, 0)
places_of NoDayOpen = (0, 0)
places_of (Day position) = (position, 0)
places_of (Month position) = (position, 0)
places_of (Hour position) = (position, 0)
places_of (Party position) = (position, 0)
places_of (Figure position) = (position, 0)
places_of (HourAllotted hour) = (hour, 0)
places_of (HourNotAllotted hour) = (hour, 0)
places_of (AboveShortfall hour party) = (hour, party)
places_of (AboveRequest hour party) = (hour, party)
places_of (AboveDeployment seller buyer) = (seller, buyer)
places_of (AboveSupply hour short) = (hour, short)
places_of (MissingPrice hour quote) = (hour, quote_number quote)
places_of ShareLists = (0, 0)
places_of DivisionFigure = (0, 0)
places_of NoClaims = (0, 0)
places_of (TooManyClaims count limit) = (count, limit)

-- how it is printed, as in "41, places 8 and 3"
abbrev pub refusal_text : Refusal → List ℕ
refusal_text e = decimal (number_of e) ++ codes ", places " ++ decimal (places_of e).0 ++ codes " and " ++ decimal (places_of e).1

-- who answers for a refusal
abbrev pub layer_of : Refusal → Layer
layer_of LineTooLong = LineWriter
layer_of UnknownLetter = LineWriter
layer_of FieldCount = LineWriter
layer_of (Misspelt position) = LineWriter
layer_of (ShortTarget needed) = LineWriter
layer_of Parties = SetUp
layer_of Rates = SetUp
layer_of SecondSetUp = SetUp
layer_of NotSetUp = SetUp
layer_of (PageSize count) = SetUp
layer_of DayOpen = DayKeeper
layer_of NoDayOpen = DayKeeper
layer_of (Day position) = DayKeeper
layer_of (Month position) = DayKeeper
layer_of (Hour position) = DayKeeper
layer_of (Party position) = DayKeeper
layer_of (Figure position) = DayKeeper
layer_of (HourAllotted hour) = DayKeeper
layer_of (HourNotAllotted hour) = DayKeeper
layer_of (AboveShortfall hour party) = Buyer
layer_of (AboveRequest hour party) = Buyer
layer_of (AboveDeployment seller buyer) = Seller
layer_of (AboveSupply hour short) = Pool
layer_of (MissingPrice hour quote) = PriceSource
layer_of ShareLists = DivisionRule
layer_of DivisionFigure = DivisionRule
layer_of NoClaims = DivisionRule
layer_of (TooManyClaims count limit) = DivisionRule
