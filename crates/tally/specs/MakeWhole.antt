-- Make-whole's sharing: the rule divides it among the seller's buyers. Assumes nothing.
use Rattle.std.specs.Prelude.{ℕ, ◌+◌, ◌-◌, if◌then◌else◌, List, ◌==◌}
use Rattle.tariff.specs.Answers.{Answer, granted, ◌then◌, in_order}
use Rattle.tariff.specs.Division.{Division, division_answer}
use Rattle.tariff.specs.declared.blocks.Block.{Block}
use Rattle.tariff.specs.declared.blocks.Block.TheVariants.{Heavy, Light}
use Rattle.tally.specs.DayPrices.{DayPrices}
use Rattle.tally.specs.Numbered.{listed, numbered}
use Rattle.tally.specs.Pairs.{pair}
use Rattle.tally.specs.Settlement.{block_greatest, make_whole}
use Rattle.tally.specs.States.{State, hour_at}

module _ (state : State) where
  -- A close divides for one seller after another, first in the heavy block and then in the light one. Turns are counted from 0.
  abbrev pub turn : Block → (seller : ℕ) → ℕ
  turn Heavy seller = seller - 1
  turn Light seller = state.set_up.parties + (seller - 1)

  -- by the largest hourly MW of each buyer with that seller in the block
  unfoldable pub largest_pair : Block → (seller buyer : ℕ) → ℕ
  largest_pair block seller buyer = block_greatest state block (λ hour. pair (hour_at state hour) seller buyer)

  abbrev pub make_whole_claims : Block → ℕ → List ℕ
  make_whole_claims block seller = listed (largest_pair block seller) state.set_up.parties

  module _ (prices : DayPrices) where
    -- the rule is consulted only where there is something to divide
    abbrev pub sharing_answer : ℕ → Block → ℕ → Answer
    sharing_answer most block seller =
        if make_whole state prices block seller == 0 then granted
        else division_answer most (make_whole state prices block seller) (make_whole_claims block seller) state.set_up.parties

    -- in the order of the turns
    abbrev pub sharings_answer : ℕ → Answer
    sharings_answer most =
        in_order (sharing_answer most Heavy) state.set_up.parties
        then in_order (sharing_answer most Light) state.set_up.parties

    -- each division goes by the meaning that the rule has at its turn
    unfoldable pub make_whole_share : (ℕ → Division) → Block → (seller buyer : ℕ) → ℕ
    make_whole_share meanings block seller buyer =
        if make_whole state prices block seller == 0 then 0
        else numbered (meanings (turn block seller) (make_whole state prices block seller) (make_whole_claims block seller)) buyer
