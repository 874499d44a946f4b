-- Make-whole as a rule divided it among buyers. Assumes nothing.
use Rattle.std.specs.Prelude.{◌≡◌, ℕ, suc, ◌<◌, if◌then◌else◌, List, [], ◌==◌, slice_index, slice_index_or}
use Rattle.tariff.specs.Division.{Division, LawfulRule, Moves}
use Rattle.tariff.specs.declared.blocks.Block.{Block}
use Rattle.tariff.specs.declared.blocks.Block.TheVariants.{Heavy, Light}
use Rattle.tally.specs.DayPrices.{DayPrices}
use Rattle.tally.specs.MakeWhole.{make_whole_share}
use Rattle.tally.specs.States.{State, IsParty}
use Rattle.tally.specs.Turns.{Turned, Turns}
use Rattle.book.specs.Records.{in_row}

-- the share at a place; the rule is consulted only where there is something to divide
abbrev pub share_of : (amount : ℕ) → Division → List ℕ → ℕ → ℕ
share_of amount division claims place = if amount == 0 then 0 else slice_index (division amount claims) place

-- What the first `count` sellers lack in a block, divided for one after another among so many parties: each goes by the
-- meaning that the one before it left. Sellers and buyers are told by place, and there is a row for each seller.
pub record Divisions (most : ℕ) (moves : Moves) (amounts : ℕ → ℕ) (claims : ℕ → List ℕ) (parties count : ℕ)
    (first : Division) (rows : List (List ℕ)) (last : Division) : Type 0 where
  pub meanings : ℕ → Division
  pub lawful : (seller : ℕ) → LawfulRule most (meanings seller)
  pub starts : meanings 0 ≡ first
  pub turns : (seller : ℕ) → seller < count
      → Turned moves (amounts seller) (claims seller) (meanings seller) (meanings (suc seller))
  pub ends : meanings count ≡ last
  pub shares : (seller buyer : ℕ) → seller < count → buyer < parties
      → slice_index (slice_index_or rows seller []) buyer
      ≡ share_of (amounts seller) (meanings seller) (claims seller) buyer

-- a table for each block, with a row for each seller
abbrev pub shares_in : (heavy light : List (List ℕ)) → Block → (seller buyer : ℕ) → ℕ
shares_in heavy light Heavy = in_row 0 heavy
shares_in heavy light Light = in_row 0 light

-- Make-whole of both blocks, divided by a rule in the turns of a close.
pub record Shared (most : ℕ) (moves : Moves) (state : State) (prices : DayPrices) (first : Division)
    (heavy light : List (List ℕ)) (last : Division) : Type 0 where
  pub meanings : ℕ → Division
  pub lawful : (turn : ℕ) → LawfulRule most (meanings turn)
  pub turns : Turns moves state prices meanings first last
  pub shares : (block : Block) (seller buyer : ℕ) → IsParty state seller → IsParty state buyer
      → shares_in heavy light block seller buyer ≡ make_whole_share state prices meanings block seller buyer
