-- What every close keeps of a seller's block sale revenue. Assumes nothing.
use Rattle.std.specs.Prelude.{◌≡◌, ℕ, ℤ, pos, ◌+ℤ◌, ◌≤ℤ◌, ◌<ℤ◌}
use Rattle.tariff.specs.declared.blocks.Block.{Block}
use Rattle.tally.specs.DayPrices.{DayPrices}
use Rattle.tally.specs.Laws.{AtEachClose}
use Rattle.tally.specs.Numbered.{total_z}
use Rattle.tally.specs.Settlement.{revenue, credits, largest_holding}
use Rattle.tally.specs.States.{State, IsParty}
use Rattle.tally.specs.Statements.{Statement, Payment, buyer_pays}

-- what a seller's buyers pay on a page of the statement, and what it gets with its credits
abbrev pub buyers_pay : State → Statement → (Payment → ℤ) → Block → ℕ → ℤ
buyers_pay state statement figure block seller = total_z (λ buyer. figure (statement block seller buyer)) state.set_up.parties

abbrev pub covered : State → DayPrices → Statement → Block → ℕ → ℤ
covered state prices statement block seller = buyers_pay state statement buyer_pays block seller +ℤ credits state prices block seller

-- What a seller's buyers pay on the statement and its credits together reach the block sale revenue, and are equal to it
-- where the make-whole that they pay is above 0. Without a holding, revenue and credits are 0.
pub record Reached (state : State) (prices : DayPrices) (statement : Statement) (block : Block) (seller : ℕ) : Type 0 where
  pub reached : revenue state prices block seller ≤ℤ covered state prices statement block seller
  pub met : pos 0 <ℤ buyers_pay state statement (λ p. p.make_whole) block seller
      → covered state prices statement block seller ≡ revenue state prices block seller
  pub none : largest_holding state block seller ≡ 0
      → (revenue state prices block seller ≡ pos 0) × (credits state prices block seller ≡ pos 0)

abbrev pub RevenueReached : Type 0
RevenueReached =
    AtEachClose (λ state prices statement. (block : Block) (seller : ℕ) → IsParty state seller
    → Reached state prices statement block seller)
