-- What a seller's buyers pay, with its credits, reaches its block sale revenue. Assumes nothing.
use Rattle.std.proofs.Common.{◌≡◌, ℕ, ◌<◌, Bool, true, false, cond, eqb, ℤ, pos, negsuc, ◌+ℤ◌, ◌-ℤ◌}
use Rattle.std.proofs.Common.{◌*ℤ◌, ◌≤ℤ◌, ◌<ℤ◌, sym, refl, ap, ◌∙◌, subst, ap₂, arith}
use lib.IntN.{zero-*ℤ}
use Rattle.std.proofs.lemmas.Int.{ints}
use Rattle.std.proofs.lemmas.Bool.{eqb-true}
use Rattle.tariff.specs.Answers.{granted, in_order}
use Rattle.tariff.specs.Division.{Division, LawfulRule, division_answer}
use Rattle.tariff.specs.declared.blocks.Block.{Block}
use Rattle.tariff.specs.declared.blocks.Block.TheVariants.{Heavy, Light}
use Rattle.tally.specs.DayPrices.{DayPrices, needed_prices}
use Rattle.tally.specs.RevenueLaws.{RevenueReached, Reached, buyers_pay}
use Rattle.tally.specs.MakeWhole.{make_whole_share, largest_pair, sharing_answer, sharings_answer, turn}
use Rattle.tally.specs.Numbered.{total, listed, numbered, positive_part}
use Rattle.tally.specs.Settlement.{make_whole, revenue, settlement, credits, declined_credit}
use Rattle.tally.specs.Settlement.{idle_credit, largest_holding, holdback, energy}
use Rattle.tally.specs.States.{State, IsParty, hour_at}
use Rattle.tally.specs.Statements.{buyer_pays, statement_of}
use Rattle.tally.specs.Tally.{tallied}
use Rattle.tally.proofs.BlockHours.{IsHourIn, block_zero, le_block_greatest}
use Rattle.tally.proofs.Findings.{close_found}
use Rattle.tally.proofs.Granting.{then_first, then_next, in_order_lem}
use Rattle.tally.proofs.Numbering.{total_zero, total_z_add, total_z_pos}
use Rattle.tally.proofs.Shares.{accepted, shares_total}

-- what is lacking brings what is paid and credited up to the revenue
lacking_reaches : (revenue paid credit : ℤ) → revenue ≤ℤ (paid +ℤ pos (positive_part (revenue -ℤ paid -ℤ credit)) +ℤ credit)
lacking_reaches revenue paid credit = let h = part_above (revenue -ℤ paid -ℤ credit) in omega (arith, ints)
  where
    part_above : (z : ℤ) → z ≤ℤ pos (positive_part z)
    part_above (pos n) = omega (arith, ints)
    part_above (negsuc n) = omega (arith, ints)

lacking_meets : (revenue paid credit : ℤ) → 0 < positive_part (revenue -ℤ paid -ℤ credit)
    → paid +ℤ pos (positive_part (revenue -ℤ paid -ℤ credit)) +ℤ credit ≡ revenue
lacking_meets revenue paid credit h = let e = part_same (revenue -ℤ paid -ℤ credit) h in omega (arith, ints)
  where
    part_same : (z : ℤ) → 0 < positive_part z → pos (positive_part z) ≡ z
    part_same (pos n) h = refl
    part_same (negsuc n) h = absurd (omega arith)

-- an amount that a lawful rule divides is what the shares come to, and one of 0 has no shares
shares_add : (most amount parties : ℕ) (claim : ℕ → ℕ) (rule : Division) → LawfulRule most rule → (is_none : Bool) → eqb amount 0 ≡ is_none
    → cond is_none granted (division_answer most amount (listed claim parties) parties) ≡ granted
    → total (λ buyer. cond is_none 0 (numbered (rule amount (listed claim parties)) buyer)) parties ≡ amount
shares_add most amount parties claim rule lawful true e g = total_zero (λ buyer. 0) parties (λ k l m. refl) ∙ sym (eqb-true amount 0 e)
shares_add most amount parties claim rule lawful false e g =
    shares_total claim parties amount (rule amount (listed claim parties)) (accepted most amount rule claim parties lawful g)

module _ (state : State) (prices : DayPrices) where
  pub make_whole_adds : (most : ℕ) (meanings : ℕ → Division) (block : Block) (seller : ℕ) → ((turn : ℕ) → LawfulRule most (meanings turn))
      → sharing_answer state prices most block seller ≡ granted
      → total (make_whole_share state prices meanings block seller) state.set_up.parties ≡ make_whole state prices block seller
  unfolding make_whole_share
  make_whole_adds most meanings block seller lawful g =
      shares_add most (make_whole state prices block seller) state.set_up.parties (largest_pair state block seller)
      (meanings (turn state block seller)) (lawful (turn state block seller))
      (eqb (make_whole state prices block seller) 0) refl g

  -- granted sharings grant each seller's
  pub sharing_granted : (most : ℕ) (block : Block) (seller : ℕ) → IsParty state seller → sharings_answer state prices most ≡ granted
      → sharing_answer state prices most block seller ≡ granted
  sharing_granted most Heavy seller p g =
      in_order_lem (sharing_answer state prices most Heavy) seller state.set_up.parties
      (then_first (in_order (sharing_answer state prices most Heavy) state.set_up.parties)
      (in_order (sharing_answer state prices most Light) state.set_up.parties) g) p.0 p.1
  sharing_granted most Light seller p g =
      in_order_lem (sharing_answer state prices most Light) seller state.set_up.parties
      (then_next (in_order (sharing_answer state prices most Heavy) state.set_up.parties)
      (in_order (sharing_answer state prices most Light) state.set_up.parties) g) p.0 p.1

  -- where a seller's largest holding is 0, it holds nothing in any hour of the block
  holds_none : (block : Block) (seller : ℕ) → largest_holding state block seller ≡ 0
      → (hour : ℕ) → IsHourIn state block hour → (hour_at state hour).holdings seller ≡ 0
  unfolding largest_holding
  holds_none block seller e hour i = omega (arith, le_block_greatest state block (λ hour. (hour_at state hour).holdings seller) hour i)

  pub revenue_none : (block : Block) (seller : ℕ) → largest_holding state block seller ≡ 0 → revenue state prices block seller ≡ pos 0
  unfolding revenue
  revenue_none block seller e =
      block_zero state block (λ hour. pos (largest_holding state block seller) *ℤ prices.day_ahead block)
      (λ hour i. rw e (zero-*ℤ (prices.day_ahead block)))

  declined_none : (block : Block) (seller : ℕ) → largest_holding state block seller ≡ 0 → declined_credit state prices block seller ≡ pos 0
  unfolding declined_credit
  declined_none block seller e = block_zero state block _ (λ hour i. rw (holds_none block seller e hour i) refl)

  idle_none : (block : Block) (seller : ℕ) → largest_holding state block seller ≡ 0 → idle_credit state prices block seller ≡ pos 0
  unfolding idle_credit
  idle_none block seller e = block_zero state block _ (λ hour i. rw (holds_none block seller e hour i, e) (zero-*ℤ (prices.real_time hour)))

  pub credits_none : (block : Block) (seller : ℕ) → largest_holding state block seller ≡ 0 → credits state prices block seller ≡ pos 0
  credits_none block seller e = ap₂ ◌+ℤ◌ (declined_none block seller e) (idle_none block seller e)

  -- what the buyers pay is the settlement and the make-whole
  module _ (meanings : ℕ → Division) (block : Block) (seller : ℕ)
      (adds : total (make_whole_share state prices meanings block seller) state.set_up.parties ≡ make_whole state prices block seller) where
    shares_paid : buyers_pay state (statement_of state prices meanings) (λ p. p.make_whole) block seller
        ≡ pos (make_whole state prices block seller)
    shares_paid = total_z_pos (make_whole_share state prices meanings block seller) state.set_up.parties ∙ ap pos adds

    all_paid : buyers_pay state (statement_of state prices meanings) buyer_pays block seller
        ≡ settlement state prices block seller +ℤ pos (make_whole state prices block seller)
    all_paid =
        total_z_add (λ buyer. holdback state prices block seller buyer +ℤ energy state prices block seller buyer)
        (λ buyer. pos (make_whole_share state prices meanings block seller buyer)) state.set_up.parties
        ∙ ap (λ z. settlement state prices block seller +ℤ z) shares_paid

    reached_where_added : Reached state prices (statement_of state prices meanings) block seller
    reached_where_added = record {
      reached = rw all_paid
          (lacking_reaches (revenue state prices block seller) (settlement state prices block seller) (credits state prices block seller));
      met = λ h. ap (λ z. z +ℤ credits state prices block seller) all_paid
          ∙ lacking_meets (revenue state prices block seller) (settlement state prices block seller) (credits state prices block seller)
          (let p : pos 0 <ℤ pos (make_whole state prices block seller) = subst (λ z. pos 0 <ℤ z) shares_paid h in omega (arith, ints));
      none = λ e. (revenue_none block seller e, credits_none block seller e);
    }

pub revenue_reached_lem : RevenueReached
revenue_reached_lem set_up events proper lawful tables most meanings heavy_page light_page ruled g block seller party =
    let state = (tallied set_up events).state in
    let prices = needed_prices state tables in
    reached_where_added state prices meanings block seller
    (make_whole_adds state prices most meanings block seller ruled.1
    (sharing_granted state prices most block seller party (close_found state tables most meanings heavy_page light_page g).shared))
