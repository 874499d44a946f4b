-- Worked delivery charges of party 1, which the ceiling of its year cuts or leaves whole. Assumes nothing.
use Rattle.std.specs.Prelude.{◌≡◌, ℕ, if◌then◌else◌, ◌&&◌, List, [], ◌∷◌, ℤ, pos, ◌==◌}
use Rattle.tariff.specs.Tables.{Tables}
use Rattle.tariff.specs.declared.blocks.Block.{Block}
use Rattle.tariff.specs.declared.blocks.Block.TheVariants.{Heavy, Light}
use Rattle.tariff.specs.declared.blocks.DayKind.TheVariants.{Workday}
use Rattle.tariff.specs.declared.charges.Cover.TheVariants.{Covered, Uncovered}
use Rattle.tally.specs.DayPrices.{needed_prices}
use Rattle.tally.specs.Numbered.{replaced}
use Rattle.tally.specs.States.{State, Year, fresh, fresh_year, on_hour}
use Rattle.tally.specs.Statements.{Payment, statement_of}
use Rattle.tally.specs.Tally.{opened}
use Rattle.tally.specs.WorkedDay.{year_after, year_of}
use Rattle.tally.specs.WorkedPool.{three, day_tables, dear_tables, negative_tables, day_of, met_hour, hour8}
use Rattle.tally.specs.WorkedPool.{missed_day, missed_night, two_buyers, two_buyers_day}

-- party 1's entry with a buyer
abbrev pub entry_of : Tables → Block → State → ℕ → Payment
entry_of tables block state buyer = statement_of state (needed_prices state tables) (λ turn amount claims. []) block 1 buyer

abbrev pub to_pool : Block → State → ℤ
to_pool block state = (entry_of day_tables block state 3).to_pool

abbrev pub to_buyer : Block → State → ℤ
to_buyer block state = (entry_of day_tables block state 3).to_buyer

-- in hour 9 party 1 is to deliver 2 MW besides, and misses 1 of them, too
abbrev pub missed_again : State → State
missed_again state = on_hour 9 (λ before. met_hour 2 (2 ∷ 0 ∷ []) (2 ∷ []) (1 ∷ []) Covered) state

-- the year so far: party 1 missed up to 5 MWh in a month, had so many failure days, and was charged so much
abbrev pub year_with : (month failures charges : ℕ) → Year
year_with month failures charges = record fresh_year {
  failure_days = replaced (λ seller. 0) 1 failures;
  misses = λ seller m. if seller == 1 && m == month then 5 else 0;
  charges = replaced (λ seller. 0) 1 charges;
}

-- hour 8 on a day of month 2, in a year in which party 1 missed up to 5 MWh in month 1
abbrev pub second_month : State
second_month = on_hour 8 (λ before. hour8 2 Covered) (opened 1 Workday 2 (record (fresh three) { year = year_with 1 0 0 }))

-- hour 8 in which party 2 misses the MWh, in the year of party 1
abbrev pub missed_by_second : State
missed_by_second = day_of (year_with 3 1 125000) 8 (met_hour 7 (4 ∷ 3 ∷ []) (3 ∷ 2 ∷ []) (0 ∷ 1 ∷ []) Covered)

-- two buyers, of whom only the second one's miss is covered; what is charged for each, to the pool and to the buyer
abbrev pub one_uncovered : State
one_uncovered = day_of (year_with 3 0 0) 8 (record two_buyers { cover = λ seller. replaced (λ buyer. Covered) 2 Uncovered })

abbrev pub charged_for : ℕ → List ℤ
charged_for buyer =
    (entry_of day_tables Heavy one_uncovered buyer).to_pool ∷ (entry_of day_tables Heavy one_uncovered buyer).to_buyer ∷ []

pub record WorkedCharges : Type 0 where
  -- covered, 2 MWh are charged 5 × 5,000 each, to the pool; the ceiling of 2 MW, today's miss, cuts 50,000 to 40,000
  pub covered_to_pool : to_pool Heavy (missed_day Covered) ≡ pos 40000
  pub covered_to_buyer : to_buyer Heavy (missed_day Covered) ≡ pos 0
  -- a miss in another hour does not raise the month's, so nothing more is charged
  pub twice_missed : to_pool Heavy (missed_again (missed_day Covered)) ≡ pos 40000
  -- with two buyers the first is charged for whole, and the second for what the ceiling leaves
  pub first_buyer : (entry_of day_tables Heavy two_buyers_day 2).to_pool ≡ pos 25000
  pub second_buyer : (entry_of day_tables Heavy two_buyers_day 3).to_pool ≡ pos 15000
  -- each by its own cover: 25 × 5,000 to buyer 2, and of 130,000 the rest to the pool
  pub uncovered_of_two : charged_for 2 ≡ pos 0 ∷ pos 125000 ∷ []
  pub covered_of_two : charged_for 3 ≡ pos 5000 ∷ pos 0 ∷ []
  -- of 65,000 that a ceiling of 130,000 leaves, the charges for both buyers take 25,000 each in hour 8; 15,000 are left for hour 9
  pub later_hour : to_pool Heavy (missed_again (day_of (year_with 3 0 65000) 8 two_buyers)) ≡ pos 40000
  -- the higher of both prices counts, and none below 0
  pub dear : (entry_of dear_tables Heavy (day_of (year_with 3 0 0) 8 (hour8 2 Covered)) 3).to_pool ≡ pos 60000
  pub negative : (entry_of negative_tables Heavy (missed_day Covered) 3).to_pool ≡ pos 0
  -- in a year with 5 MWh missed in month 3 the ceiling is 20,000 × 5 + 15,000 × 2 = 130,000; the second failure day has factor 10
  pub second_failure : to_pool Heavy (day_of (year_with 3 1 0) 8 (hour8 2 Covered)) ≡ pos 100000
  -- uncovered, factor 50 and to the buyer, cut to the ceiling, and to what is left of it
  pub uncovered_to_buyer : to_buyer Heavy (day_of (year_with 3 1 0) 8 (hour8 2 Uncovered)) ≡ pos 130000
  pub uncovered_to_pool : to_pool Heavy (day_of (year_with 3 1 0) 8 (hour8 2 Uncovered)) ≡ pos 0
  pub charged_before : to_buyer Heavy (day_of (year_with 3 1 125000) 8 (hour8 2 Uncovered)) ≡ pos 5000
  pub december : to_buyer Heavy (day_of (year_with 12 1 0) 8 (hour8 2 Uncovered)) ≡ pos 130000
  pub year_so_far : year_after (day_of (year_with 3 1 125000) 8 (hour8 2 Uncovered)) ≡ 2 ∷ 2 ∷ 0 ∷ 130000 ∷ []
  -- a miss counts in its day's own month, and the largest of another month stays
  pub other_month : year_after second_month ≡ 1 ∷ 5 ∷ 2 ∷ 50000 ∷ []
  -- a seller's factor and ceiling go by its own year: party 2 has its first failure day and a ceiling of 20,000
  pub other_party : year_of 2 missed_by_second ≡ 1 ∷ 1 ∷ 0 ∷ 20000 ∷ []
  -- 5 MWh missed before in the day's own month stay its largest miss: the ceiling of 100,000 cuts nothing
  pub same_month : to_pool Heavy (day_of (year_with 1 0 0) 8 (hour8 2 Covered)) ≡ pos 50000
  -- a single MWh, missed in the last hour, at the light block's 3,000, on the first failure day and on the second
  pub last_hour : to_pool Light (missed_night fresh_year) ≡ pos 15000
  pub last_hour_again : to_pool Light (missed_night (year_with 3 1 0)) ≡ pos 30000
