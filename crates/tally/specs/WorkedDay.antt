-- A worked day: what its buyers pay, make-whole, and what it adds to the year. Assumes nothing.
use Rattle.std.specs.Prelude.{◌≡◌, ℕ, List, [], ◌∷◌, map, ℤ, pos}
use Rattle.std.specs.List.{range_with_len}
use Rattle.tariff.specs.declared.blocks.Block.{Block}
use Rattle.tariff.specs.declared.blocks.Block.TheVariants.{Heavy, Light}
use Rattle.tariff.specs.declared.blocks.DayKind.TheVariants.{Sunday}
use Rattle.tariff.specs.declared.charges.Cover.TheVariants.{Covered}
use Rattle.tally.specs.DayPrices.{needed_prices, day_ahead_at}
use Rattle.tally.specs.Events.{open_day}
use Rattle.tally.specs.Settlement.{holdback, energy, make_whole}
use Rattle.tally.specs.States.{State, fresh, fresh_year, on_hour}
use Rattle.tally.specs.Tally.{done}
use Rattle.tally.specs.Years.{year_closed}
use Rattle.tally.specs.WorkedPool.{three, day_tables, hour8, quiet_day, second_day, missed_day}
use Rattle.tally.specs.WorkedPool.{partly_held_day, missed_night, two_buyers_day}

-- in a block: what party 3 pays to parties 1 and 2 for holding and for energy, and what makes them whole
abbrev pub holdbacks : Block → State → List ℤ
holdbacks block state = map (λ seller. holdback state (needed_prices state day_tables) block seller 3) (range_with_len 1 2)

abbrev pub energies : Block → State → List ℤ
energies block state = map (λ seller. energy state (needed_prices state day_tables) block seller 3) (range_with_len 1 2)

abbrev pub make_wholes : Block → State → List ℕ
make_wholes block state = map (make_whole state (needed_prices state day_tables) block) (range_with_len 1 2)

-- a Sunday with the same hour 8
abbrev pub quiet_sunday : State
quiet_sunday = on_hour 8 (λ before. hour8 0 Covered) (done (fresh three) (open_day (pos 1) Sunday (pos 1)))

-- the year of a party after the day's close, and that of party 1: failure days, its misses in months 1 and 2, charges
abbrev pub year_of : ℕ → State → List ℕ
year_of party state =
    let year = year_closed state (needed_prices state day_tables) in
    year.failure_days party ∷ year.misses party 1 ∷ year.misses party 2 ∷ year.charges party ∷ []

abbrev pub year_after : State → List ℕ
year_after state = year_of 1 state

-- the prices by which an hour is settled: day-ahead, real-time, and the factor
abbrev pub prices_at : State → ℕ → List ℤ
prices_at state hour =
    let prices = needed_prices state day_tables in
    day_ahead_at state prices hour ∷ prices.real_time hour ∷ pos (prices.factor hour) ∷ []

pub record WorkedDay : Type 0 where
  -- hour 8, which is held, needs all three; hour 9 no factor; and the night, in which nothing is held, none
  pub held_prices : prices_at quiet_day 8 ≡ pos 5000 ∷ pos 4000 ∷ pos 12000 ∷ []
  pub block_prices : prices_at quiet_day 9 ≡ pos 5000 ∷ pos 4000 ∷ pos 0 ∷ []
  pub no_prices : prices_at quiet_day 24 ≡ pos 0 ∷ pos 0 ∷ pos 0 ∷ []
  -- nor has a number that is no hour, though it counts as one of the night, in which something is held
  pub no_hour : prices_at (missed_night fresh_year) 25 ≡ pos 3000 ∷ pos 0 ∷ pos 0 ∷ []
  -- on day 2, of which the source has none, those of day 1 are not taken
  pub other_day : prices_at second_day 8 ≡ pos 0 ∷ pos 0 ∷ pos 0 ∷ []
  -- 10,400 + 12,000 + 53,600 = 76,000 cents for party 1 and 7,800 + 8,000 + 40,200 = 56,000 for party 2
  pub holdback_paid : holdbacks Heavy quiet_day ≡ pos 10400 ∷ pos 7800 ∷ []
  pub energy_paid : energies Heavy quiet_day ≡ pos 12000 ∷ pos 8000 ∷ []
  pub made_whole : make_wholes Heavy quiet_day ≡ 53600 ∷ 40200 ∷ []
  pub light_block_empty : make_wholes Light quiet_day ≡ 0 ∷ 0 ∷ []
  -- in hour 9, held in part, the 2 MW held count as declined, and the 2 MW that are not held bring no credit
  pub partly_held : make_wholes Heavy partly_held_day ≡ 56400 ∷ 40200 ∷ []
  -- 2 MWh that are missed are neither delivered nor declined
  pub missed_energy : energies Heavy (missed_day Covered) ≡ pos 4000 ∷ pos 8000 ∷ []
  pub missed_made_whole : make_wholes Heavy (missed_day Covered) ≡ 61600 ∷ 40200 ∷ []
  -- two buyers decline a MWh each, and party 1 misses one with each
  pub two_buyers : make_wholes Heavy two_buyers_day ≡ 75000 ∷ 0 ∷ []
  -- a single MW held in the last hour, in the light block, credited at the real-time price of its other seven hours
  pub night : make_wholes Light (missed_night fresh_year) ≡ 8700 ∷ 0 ∷ []
  -- on a Sunday hour 8 is in the light block and has its prices
  pub sunday_holdback : holdbacks Light quiet_sunday ≡ pos 3168 ∷ pos 2376 ∷ []
  pub sunday_energy : energies Light quiet_sunday ≡ pos 9504 ∷ pos 6336 ∷ []
  pub sunday_heavy : energies Heavy quiet_sunday ≡ pos 0 ∷ pos 0 ∷ []
  -- what the day adds to the year of party 1: nothing, or a failure day, its miss in month 1, and its charge as it was cut
  pub quiet_year : year_after quiet_day ≡ 0 ∷ 0 ∷ 0 ∷ 0 ∷ []
  pub missed_year : year_after (missed_day Covered) ≡ 1 ∷ 2 ∷ 0 ∷ 40000 ∷ []
  pub two_buyers_year : year_after two_buyers_day ≡ 1 ∷ 2 ∷ 0 ∷ 40000 ∷ []
  pub night_year : year_after (missed_night fresh_year) ≡ 1 ∷ 1 ∷ 0 ∷ 15000 ∷ []
