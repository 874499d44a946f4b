-- Every definition that a worked figure computes with. Assumes nothing.
use Rattle.tariff.specs.Answers.{in_order}
use Rattle.tally.specs.Allotment.{allotment}
use Rattle.tally.specs.Charges.{ceiling_of, missed_at, is_failure_day, charge, cut_charge}
use Rattle.tally.specs.DayPrices.{is_held_in, prices_of}
use Rattle.tally.specs.MakeWhole.{largest_pair, make_whole_share}
use Rattle.tally.specs.Numbered.{total, total_z, greatest}
use Rattle.tally.specs.Pairs.{pair}
use Rattle.tally.specs.Settlement.{largest_holding, holdback, energy, revenue, declined_credit, idle_credit}
use Rattle.tally.specs.Statements.{paid_to, taken_from}
use Rattle.tally.specs.Years.{day_charges}

-- a proof that unfolds this unfolds all of them
unfoldable pub figures : Type 1
unfolding in_order allotment ceiling_of missed_at is_failure_day charge cut_charge is_held_in prices_of largest_pair make_whole_share
    total total_z greatest pair largest_holding holdback energy revenue declined_credit idle_credit paid_to taken_from day_charges
figures = Type 0
