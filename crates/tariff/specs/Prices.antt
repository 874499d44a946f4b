-- Settlement prices of one hour, in cents per MWh. Assumes nothing.
use Rattle.std.specs.Prelude.{ℕ, ◌*◌, Bool, ℤ, pos, ◌+ℤ◌, ◌-ℤ◌, ◌*ℤ◌, nat_le, unsigned_abs}
use Rattle.std.specs.Int.{int_max, int_min}
use Rattle.tariff.specs.Answers.{Answer, require, ◌then◌}
use Rattle.tariff.specs.Rounding.{nearest}
use Rattle.tariff.specs.declared.prices.HourPrices.{HourPrices}
use Rattle.tariff.specs.declared.prices.Terms.{Terms}
use Rattle.tariff.specs.declared.refusal.Refusal.TheVariants.{Figure}

-- a price lies from −1,000,000 to 1,000,000 cents per MWh
abbrev pub most_price : ℕ
most_price = 1000000

abbrev pub is_price : ℤ → Bool
is_price price = nat_le (unsigned_abs price) most_price

-- a shaping factor lies from 0 to 100,000 ten-thousandths
abbrev pub most_factor : ℕ
most_factor = 100000

abbrev pub is_factor : ℕ → Bool
is_factor factor = nat_le factor most_factor

-- the average of four prices, to the nearest cent
abbrev pub average_price : ℤ → ℤ → ℤ → ℤ → ℤ
average_price first second third fourth = nearest (first +ℤ second +ℤ third +ℤ fourth) (pos 4)

abbrev pub average_answer : ℤ → ℤ → ℤ → ℤ → Answer
average_answer first second third fourth =
    require (is_price first) (Figure 1)
    then require (is_price second) (Figure 2)
    then require (is_price third) (Figure 3)
    then require (is_price fourth) (Figure 4)

-- the terms in force from the first day
abbrev pub initial_terms : Terms
initial_terms = record { cap = 200000; adder = 110; share = 80 }

-- factor × day-ahead price × adder, to the nearest cent, then at most the cap and at least 0;
-- the factor is in ten-thousandths and the adder in percent
abbrev pub total_price : Terms → ℤ → ℕ → ℤ
total_price terms day_ahead factor =
    int_max (pos 0) (int_min (nearest (pos (factor * terms.adder) *ℤ day_ahead) (pos 1000000)) (pos terms.cap))

-- the lesser of the energy share of the total price, to the nearest cent, and the real-time price
abbrev pub energy_price : Terms → ℤ → ℤ → ℤ
energy_price terms total real_time = int_min (nearest (pos terms.share *ℤ total) (pos 100)) real_time

abbrev pub prices : ℤ → ℤ → ℤ → HourPrices
prices total energy holdback = record { total = total; energy = energy; holdback = holdback }

-- the total price and its two parts: the energy price, and the holdback price, which is what is left
abbrev pub prices_at : Terms → ℤ → ℤ → HourPrices
prices_at terms total real_time = prices total (energy_price terms total real_time) (total -ℤ energy_price terms total real_time)

abbrev pub hour_prices : Terms → ℤ → ℤ → ℕ → HourPrices
hour_prices terms day_ahead real_time factor = prices_at terms (total_price terms day_ahead factor) real_time

-- an hour is priced from figures within their limits
abbrev pub prices_answer : ℤ → ℤ → ℕ → Answer
prices_answer day_ahead real_time factor =
    require (is_price day_ahead) (Figure 1)
    then require (is_price real_time) (Figure 2)
    then require (is_factor factor) (Figure 3)
