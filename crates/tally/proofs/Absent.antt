-- A number above the last party's has no payment. Assumes nothing.
use Rattle.std.proofs.Common.{◌≡◌, ℕ, ◌<◌, ◌≤◌, Bool, true, false, cond, eqb, ltb, ◌⊎◌, pos}
use Rattle.std.proofs.Common.{◌+ℤ◌, refl, ap, ap₂, inl, inr, ⊎_elim, mul-zero, arith}
use lib.IntN.{zero-*ℤ}
use Rattle.std.proofs.lemmas.Bool.{cases_lt}
use Rattle.tariff.specs.Answers.{granted}
use Rattle.tariff.specs.Division.{Division, LawfulRule, division_answer}
use Rattle.tariff.specs.declared.blocks.Block.{Block}
use Rattle.tariff.specs.declared.charges.Cover.{Cover}
use Rattle.tariff.specs.declared.charges.Cover.TheVariants.{Covered, Uncovered}
use Rattle.tally.specs.Charges.{charge, cut_charge, pool_part, buyer_part}
use Rattle.tally.specs.DayPrices.{DayPrices, needed_prices, prices_of}
use Rattle.tally.specs.AccountLaws.{OnlyPartiesPay}
use Rattle.tally.specs.MakeWhole.{largest_pair, make_whole_share, sharing_answer, turn}
use Rattle.tally.specs.Numbered.{listed, numbered}
use Rattle.tally.specs.Pairs.{pair, delivered}
use Rattle.tally.specs.Settlement.{block_total, largest_holding, holdback, energy, settlement, make_whole}
use Rattle.tally.specs.States.{State, hour_at}
use Rattle.tally.specs.Tally.{tallied}
use Rattle.tally.proofs.BlockHours.{block_zero, block_greatest_bound}
use Rattle.tally.proofs.Findings.{close_found}
use Rattle.tally.proofs.Numbering.{total_z_zero}
use Rattle.tally.proofs.Overlaps.{pair_within, pair_within_request}
use Rattle.tally.proofs.Revenue.{revenue_none, credits_none, sharing_granted}
use Rattle.tally.proofs.Shares.{accepted, shares_absent}
use Rattle.tally.proofs.Sizes.{positive_size}
use Rattle.tally.proofs.Sound.{Sound, sound}

module _ (state : State) (sound : Sound state) where
  abbrev parties : ℕ
  parties = state.set_up.parties

  holding_absent : (hour seller : ℕ) → parties < seller → (hour_at state hour).holdings seller ≡ 0
  holding_absent hour seller l =
      let entries = sound.hours hour in
      omega (
        arith,
        entries.within seller,
        counted (ltb 0 ((hour_at state hour).requests seller)) ((hour_at state hour).offers seller),
        (entries.offers seller).1 l,
        positive_size ((hour_at state hour).results seller),
        (entries.results seller).1 l,
      )
    where
      counted : (b : Bool) (x : ℕ) → cond b 0 x ≤ x
      counted true x = omega arith
      counted false x = omega arith

  -- neither a seller nor a buyer of that number has a pair
  module _ (seller buyer : ℕ) (absent : (parties < seller) ⊎ (parties < buyer)) where
    pair_absent : (hour : ℕ) → pair (hour_at state hour) seller buyer ≡ 0
    pair_absent hour =
        ⊎_elim
        (λ l. omega (arith, pair_within (hour_at state hour) seller buyer, holding_absent hour seller l))
        (λ l. omega (arith, pair_within_request (hour_at state hour) seller buyer, ((sound.hours hour).requests buyer).1 l))
        absent

    deployed_absent : (hour : ℕ) → (hour_at state hour).deployed seller buyer ≡ 0
    deployed_absent hour = omega (arith, (sound.hours hour).ordered.deployments seller buyer, pair_absent hour)

    pub missed_absent : (hour : ℕ) → (hour_at state hour).missed seller buyer ≡ 0
    missed_absent hour = omega (arith, (sound.hours hour).ordered.misses seller buyer, deployed_absent hour)

    delivered_absent : (hour : ℕ) → delivered (hour_at state hour) seller buyer ≡ 0
    delivered_absent hour = omega (arith, deployed_absent hour)

    module _ (prices : DayPrices) (block : Block) where
      holdback_absent : holdback state prices block seller buyer ≡ pos 0
      unfolding holdback
      holdback_absent = block_zero state block _ (λ hour _. rw (pair_absent hour) (zero-*ℤ (prices_of state prices hour).holdback))

      energy_absent : energy state prices block seller buyer ≡ pos 0
      unfolding energy
      energy_absent = block_zero state block _ (λ hour _. rw (delivered_absent hour) (zero-*ℤ (prices_of state prices hour).energy))

      cut_absent : (hour : ℕ) → cut_charge state prices seller hour buyer ≡ 0
      unfolding cut_charge charge
      cut_absent hour = rw (missed_absent hour, mul-zero) (omega arith)

      charges_absent : (part : Cover → ℕ → ℕ) → ((cover : Cover) → part cover 0 ≡ 0)
          → block_total state block
          (λ hour. pos (part ((hour_at state hour).cover seller buyer) (cut_charge state prices seller hour buyer))) ≡ pos 0
      charges_absent part none =
          block_zero state block _ (λ hour _. rw (cut_absent hour) (ap pos (none ((hour_at state hour).cover seller buyer))))

  -- a seller of that number holds nothing, so it lacks nothing
  make_whole_absent : (prices : DayPrices) (block : Block) (seller : ℕ) → parties < seller → make_whole state prices block seller ≡ 0
  unfolding largest_holding
  make_whole_absent prices block seller l =
      rw (settled, revenue_none state prices block seller none, credits_none state prices block seller none) refl
    where
      none : largest_holding state block seller ≡ 0
      none = let h = block_greatest_bound state block (λ hour. (hour_at state hour).holdings seller) 0
          (λ hour _. omega (arith, holding_absent hour seller l)) in omega arith

      settled : settlement state prices block seller ≡ pos 0
      settled =
          total_z_zero (λ buyer. holdback state prices block seller buyer +ℤ energy state prices block seller buyer) parties
          (λ buyer _ _. ap₂ ◌+ℤ◌ (holdback_absent seller buyer (inl l) prices block) (energy_absent seller buyer (inl l) prices block))

-- a share of nothing, or of a number that has no place
share_absent : (most amount n : ℕ) (claim : ℕ → ℕ) (rule : Division) (buyer : ℕ) → LawfulRule most rule → n < buyer → (none : Bool)
    → cond none granted (division_answer most amount (listed claim n) n) ≡ granted
    → cond none 0 (numbered (rule amount (listed claim n)) buyer) ≡ 0
share_absent most amount n claim rule buyer lawful l true ok = refl
share_absent most amount n claim rule buyer lawful l false ok =
    shares_absent claim n amount (rule amount (listed claim n)) (accepted most amount rule claim n lawful ok) buyer l

module _ (state : State) (sound : Sound state) (prices : DayPrices) (most : ℕ) (meanings : ℕ → Division) (block : Block)
    (seller buyer : ℕ) where
  make_whole_share_absent : ((turn : ℕ) → LawfulRule most (meanings turn))
      → (seller ≤ state.set_up.parties → sharing_answer state prices most block seller ≡ granted)
      → (state.set_up.parties < seller) ⊎ (state.set_up.parties < buyer) → make_whole_share state prices meanings block seller buyer ≡ 0
  unfolding make_whole_share
  make_whole_share_absent lawful granted? (inl l) = rw (make_whole_absent state sound prices block seller l) refl
  make_whole_share_absent lawful granted? (inr l) =
      ⊎_elim
      (λ (h : state.set_up.parties < seller). rw (make_whole_absent state sound prices block seller h) refl)
      (λ (h : seller ≤ state.set_up.parties).
      share_absent most (make_whole state prices block seller) state.set_up.parties (largest_pair state block seller)
      (meanings (turn state block seller)) buyer (lawful (turn state block seller)) l
      (eqb (make_whole state prices block seller) 0) (granted? h))
      (cases_lt state.set_up.parties seller)

pool_none : (cover : Cover) → pool_part cover 0 ≡ 0
pool_none Covered = refl
pool_none Uncovered = refl

buyer_none : (cover : Cover) → buyer_part cover 0 ≡ 0
buyer_none Covered = refl
buyer_none Uncovered = refl

pub only_parties_pay_lem : OnlyPartiesPay
only_parties_pay_lem set_up events proper lawful tables most meanings heavy_page light_page ruled ok block seller buyer first absent =
    let state = (tallied set_up events).state in
    let sound = sound set_up events proper lawful in
    let prices = needed_prices state tables in
    let granted? = λ (l : seller ≤ state.set_up.parties).
    sharing_granted state prices most block seller (first, l) (close_found state tables most meanings heavy_page light_page ok).shared in
    λ i. record {
      holdback = holdback_absent state sound seller buyer absent prices block i;
      energy = energy_absent state sound seller buyer absent prices block i;
      make_whole = pos (make_whole_share_absent state sound prices most meanings block seller buyer ruled.1 granted? absent i);
      to_pool = charges_absent state sound seller buyer absent prices block pool_part pool_none i;
      to_buyer = charges_absent state sound seller buyer absent prices block buyer_part buyer_none i;
    }
