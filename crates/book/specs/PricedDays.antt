-- The prices of a priced day, as the tally has them. Assumes nothing.
use Rattle.tally.specs.DayPrices.{DayPrices}
use Rattle.book.specs.HourPricing.{day_prices}
use Rattle.book.specs.declared.priced_day.PricedDay.{PricedDay}

-- its day-ahead prices, real-time prices and factors
abbrev pub prices_in : PricedDay → DayPrices
prices_in day = day_prices day.heavy day.light day.real_time day.factors
