-- Of what the laws of the tally speak: every list of calls, whatever lawful sources and rules answered them. Assumes nothing.
use Rattle.std.specs.Prelude.{◌≡◌, ℕ, List, ℤ}
use Rattle.tariff.specs.Answers.{granted}
use Rattle.tariff.specs.Division.{Division}
use Rattle.tariff.specs.Tables.{Tables}
use Rattle.tally.specs.DayPrices.{DayPrices, needed_prices}
use Rattle.tally.specs.Denials.{answer}
use Rattle.tally.specs.Events.{Event, close_day, Lawfully, AllLawful}
use Rattle.tally.specs.States.{State, SetUp, Proper, set_up_answer, set_up_of}
use Rattle.tally.specs.Statements.{Statement, statement_of}
use Rattle.tally.specs.Tally.{Tally, tallied}

-- A set-up whose figures are accepted is one that the laws speak of.
abbrev pub AcceptedSetUpsProper : Type 0
AcceptedSetUpsProper = (parties full step : ℤ) → set_up_answer parties full step ≡ granted → Proper (set_up_of parties full step)

-- what holds of the tally of every list of calls
abbrev pub Always : (Tally → Type 0) → Type 0
Always P = (set_up : SetUp) (events : List Event) → Proper set_up → AllLawful events → P (tallied set_up events)

-- what holds, at every close that is accepted after such a list, of the state before it, its prices and its statement
abbrev pub AtEachClose : (State → DayPrices → Statement → Type 0) → Type 0
AtEachClose P = Always (λ tally.
    (tables : Tables) (most : ℕ) (meanings : ℕ → Division) (heavy_page light_page : ℕ)
    → Lawfully (close_day tables most meanings heavy_page light_page)
    → answer tally.state (close_day tables most meanings heavy_page light_page) ≡ granted
    → P tally.state (needed_prices tally.state tables) (statement_of tally.state (needed_prices tally.state tables) meanings))
