-- The tally: what a list of calls comes to by the rules alone. It uses nothing of a book. Assumes nothing.
use Rattle.std.specs.Prelude.{ℕ, true, List, [], ◌∷◌, ◌++◌, unsigned_abs}
use Rattle.tariff.specs.Answers.{if_granted}
use Rattle.tariff.specs.declared.blocks.DayKind.{DayKind}
use Rattle.tally.specs.Allotment.{allotted_by}
use Rattle.tally.specs.DayPrices.{needed_prices}
use Rattle.tally.specs.Events.{Event, open_day, enter_result, enter_offer, enter_request, allot_hour, deploy, enter_miss}
use Rattle.tally.specs.Events.{close_day, void_day, start_year}
use Rattle.tally.specs.Hours.{blank, with_result, with_offer, with_request, with_miss}
use Rattle.tally.specs.Denials.{answer}
use Rattle.tally.specs.Pairs.{deployed_by}
use Rattle.tally.specs.States.{State, SetUp, fresh, fresh_year, on_hour, shut}
use Rattle.tally.specs.Statements.{Statement, statement_of}
use Rattle.tally.specs.Years.{year_closed}

-- a day opened: every figure of its hours is 0, and no hour is allotted
abbrev pub opened : ℕ → DayKind → ℕ → State → State
opened number kind month state = record state {
  day = record { number = number; is_open = true; kind = kind; hours = λ hour. blank };
  year = record (state.year) { month = month };
}

-- what an accepted call does
abbrev pub done : State → Event → State
done state (open_day day kind month) = opened (unsigned_abs day) kind (unsigned_abs month) state
done state (enter_result hour party mw) = on_hour (unsigned_abs hour) (with_result (unsigned_abs party) mw) state
done state (enter_offer hour party mw) = on_hour (unsigned_abs hour) (with_offer (unsigned_abs party) (unsigned_abs mw)) state
done state (enter_request hour party mw) = on_hour (unsigned_abs hour) (with_request (unsigned_abs party) (unsigned_abs mw)) state
done state (allot_hour hour most meaning) = on_hour (unsigned_abs hour) (allotted_by state.set_up.parties meaning) state
done state (deploy hour buyer mw most meaning) =
    on_hour (unsigned_abs hour) (deployed_by state.set_up.parties meaning (unsigned_abs buyer) (unsigned_abs mw)) state
done state (enter_miss hour seller buyer mwh cover) =
    on_hour (unsigned_abs hour) (with_miss (unsigned_abs seller) (unsigned_abs buyer) (unsigned_abs mwh) cover) state
done state (close_day tables most meanings heavy_page light_page) =
    record state { day = shut state.day; year = year_closed state (needed_prices state tables) }
done state void_day = record state { day = shut state.day }
done state start_year = record state { year = fresh_year }

-- the statement that an accepted close makes
abbrev pub stated : State → Event → List Statement
stated state (close_day tables most meanings heavy_page light_page) = statement_of state (needed_prices state tables) meanings ∷ []
stated state _ = []

-- a new program year has no statement yet
abbrev pub kept_of_year : Event → List Statement → List Statement
kept_of_year start_year statements = []
kept_of_year _ statements = statements

-- a denied call does nothing and makes no statement
abbrev pub step : State → Event → State
step state event = if_granted (answer state event) (done state event) state

abbrev pub filed : State → Event → List Statement
filed state event = if_granted (answer state event) (stated state event) []

-- the state, the statements of all closed days, and those of the program year, the newest first
pub record Tally : Type 0 where
  pub state : State
  pub statements : List Statement
  pub of_year : List Statement

abbrev pub tell : Tally → Event → Tally
tell tally event = record {
  state = step tally.state event;
  statements = filed tally.state event ++ tally.statements;
  of_year = filed tally.state event ++ if_granted (answer tally.state event) (kept_of_year event tally.of_year) tally.of_year;
}

-- what a list of calls comes to, the newest first
abbrev pub tallied : SetUp → List Event → Tally
tallied set_up [] = record { state = fresh set_up; statements = []; of_year = [] }
tallied set_up (event ∷ events) = tell (tallied set_up events) event
