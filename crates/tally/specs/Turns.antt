-- The turns of a close: by which of the rule's meanings each of its divisions goes. Assumes nothing.
use Rattle.std.specs.Prelude.{◌≡◌, ℕ, zero, suc, ◌+◌, ◌≤◌, List}
use Rattle.tariff.specs.Division.{Division, Moves, Unmoved}
use Rattle.tariff.specs.declared.blocks.Block.{Block}
use Rattle.tally.specs.DayPrices.{DayPrices}
use Rattle.tally.specs.MakeWhole.{turn, make_whole_claims}
use Rattle.tally.specs.Settlement.{make_whole}
use Rattle.tally.specs.States.{State, IsParty}

-- one turn: a division moves the meaning as the rule states; where there is nothing to divide, it stays
abbrev pub Turned : Moves → ℕ → List ℕ → (before after : Division) → Type 0
Turned moves zero claims before after = after ≡ before
Turned moves (suc amount) claims before after = moves before (suc amount) claims after

-- The meanings of an accepted close, from what the rule meant when it was called to what the last turn left. Each
-- division goes by the meaning that the one before it left.
pub record Turns (moves : Moves) (state : State) (prices : DayPrices) (meanings : ℕ → Division) (first last : Division) : Type 0 where
  pub starts : meanings 0 ≡ first
  pub turns : (block : Block) (seller : ℕ) → IsParty state seller
      → Turned moves (make_whole state prices block seller) (make_whole_claims state block seller)
      (meanings (turn state block seller)) (meanings (turn state block seller + 1))
  pub ends : meanings (state.set_up.parties + state.set_up.parties) ≡ last

-- A rule that never moves its meaning makes all divisions of a close by the one that it had at the call.
abbrev pub UnmovedRulesKeepOneMeaning : Type 0
UnmovedRulesKeepOneMeaning =
    (state : State) (prices : DayPrices) (meanings : ℕ → Division) (first last : Division) → Turns Unmoved state prices meanings first last
    → (k : ℕ) → k ≤ state.set_up.parties + state.set_up.parties → meanings k ≡ first
