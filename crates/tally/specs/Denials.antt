-- Which calls are denied: the tests of each, in ascending order of their numbers. Assumes nothing.
use Rattle.std.specs.Prelude.{ℕ, ◌+◌, max, not, ℤ, ◌==◌, nat_le, unsigned_abs}
use Rattle.tariff.specs.Answers.{Answer, require, ◌then◌, in_order}
use Rattle.tariff.specs.Blocks.{hours_of_day, last_day}
use Rattle.tariff.specs.Figures.{between}
use Rattle.tariff.specs.declared.refusal.Refusal.TheVariants.{PageSize, DayOpen, NoDayOpen, Day, Month, Hour, Party, Figure}
use Rattle.tariff.specs.declared.refusal.Refusal.TheVariants.{HourAllotted, HourNotAllotted, AboveShortfall, AboveRequest, AboveDeployment}
use Rattle.tally.specs.Allotment.{shortfall, allot_answer}
use Rattle.tally.specs.DayPrices.{needed_quotes_answer, needed_prices}
use Rattle.tally.specs.Events.{Event, open_day, enter_result, enter_offer, enter_request, allot_hour, deploy, enter_miss}
use Rattle.tally.specs.Events.{close_day, void_day, start_year}
use Rattle.tally.specs.MakeWhole.{sharings_answer}
use Rattle.tally.specs.Pairs.{served, deploy_answer}
use Rattle.tally.specs.States.{State, hour_named, months_of_year}

-- the most MW or MWh that can be entered, and the entries of a page: one for each seller and buyer of twelve
abbrev pub most_mw : ℕ
most_mw = 5000

abbrev pub page_entries : ℕ
page_entries = 144

module _ (state : State) where
  -- the tests, each granted where it passes
  abbrev pub day_is_open : Answer
  day_is_open = require state.day.is_open NoDayOpen

  abbrev pub no_day_is_open : Answer
  no_day_is_open = require (not state.day.is_open) DayOpen

  -- an hour, a party and a figure of an entry, at their positions
  abbrev pub is_hour_at : ℕ → ℤ → Answer
  is_hour_at position hour = require (between 1 hours_of_day hour) (Hour position)

  abbrev pub is_party_at : ℕ → ℤ → Answer
  is_party_at position party = require (between 1 state.set_up.parties party) (Party position)

  abbrev pub is_figure_at : ℕ → ℤ → Answer
  is_figure_at position mw = require (between 0 most_mw mw) (Figure position)

  -- a result may be below 0
  abbrev pub is_result_at : ℕ → ℤ → Answer
  is_result_at position mw = require (nat_le (unsigned_abs mw) most_mw) (Figure position)

  -- some entries come before their hour is allotted, others after
  abbrev pub is_unallotted : ℤ → Answer
  is_unallotted hour = require (not (hour_named state hour).allotted) (HourAllotted (unsigned_abs hour))

  abbrev pub is_allotted : ℤ → Answer
  is_allotted hour = require (hour_named state hour).allotted (HourNotAllotted (unsigned_abs hour))

  -- a request is at most its party's shortfall, a deployment what its buyer is served, a miss what its pair is to deliver
  abbrev pub is_within_shortfall : (hour party mw : ℤ) → Answer
  is_within_shortfall hour party mw =
      require (nat_le (unsigned_abs mw) (shortfall (hour_named state hour) (unsigned_abs party)))
      (AboveShortfall (unsigned_abs hour) (unsigned_abs party))

  abbrev pub is_within_served : (hour buyer mw : ℤ) → Answer
  is_within_served hour buyer mw =
      require (nat_le (unsigned_abs mw) (served (hour_named state hour) (unsigned_abs buyer)))
      (AboveRequest (unsigned_abs hour) (unsigned_abs buyer))

  abbrev pub is_within_deployed : (hour seller buyer mwh : ℤ) → Answer
  is_within_deployed hour seller buyer mwh =
      require (nat_le (unsigned_abs mwh) ((hour_named state hour).deployed (unsigned_abs seller) (unsigned_abs buyer)))
      (AboveDeployment (unsigned_abs seller) (unsigned_abs buyer))

  abbrev pub is_page : ℕ → Answer
  is_page count = require (count == page_entries) (PageSize count)

  -- What a call answers: it is denied just where one of its tests fails, by the first that does.
  abbrev pub answer : Event → Answer
  answer (open_day day kind month) =
      no_day_is_open
      then require (between (state.day.number + 1) last_day day) (Day 1)
      then require (between (max 1 state.year.month) months_of_year month) (Month 3)
  answer (enter_result hour party mw) =
      day_is_open then is_hour_at 1 hour then is_party_at 2 party then is_result_at 3 mw then is_unallotted hour
  answer (enter_offer hour party mw) =
      day_is_open then is_hour_at 1 hour then is_party_at 2 party then is_figure_at 3 mw then is_unallotted hour
  answer (enter_request hour party mw) =
      day_is_open then is_hour_at 1 hour then is_party_at 2 party then is_figure_at 3 mw then is_unallotted hour
      then is_within_shortfall hour party mw
  answer (allot_hour hour most meaning) =
      day_is_open then is_hour_at 1 hour then is_unallotted hour
      then allot_answer state.set_up.parties (hour_named state hour) most (unsigned_abs hour)
  answer (deploy hour buyer mw most meaning) =
      day_is_open then is_hour_at 1 hour then is_party_at 2 buyer then is_figure_at 3 mw then is_allotted hour
      then is_within_served hour buyer mw
      then deploy_answer state.set_up.parties (hour_named state hour) most (unsigned_abs buyer) (unsigned_abs mw)
  answer (enter_miss hour seller buyer mwh cover) =
      day_is_open then is_hour_at 1 hour then is_party_at 2 seller then is_party_at 3 buyer then is_figure_at 4 mwh
      then is_allotted hour then is_within_deployed hour seller buyer mwh
  answer (close_day tables most meanings heavy_page light_page) =
      is_page heavy_page then is_page light_page then day_is_open
      then in_order (needed_quotes_answer state tables) hours_of_day
      then sharings_answer state (needed_prices state tables) most
  answer void_day = day_is_open
  answer start_year = no_day_is_open
