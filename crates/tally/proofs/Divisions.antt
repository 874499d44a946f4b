-- What a close hands to a rule lies within the limits of a division, and has a claim where there is something to divide. Assumes nothing.
use Rattle.std.proofs.Common.{◌≡◌, ℕ, suc, ◌<◌, ◌≤◌, true, leb, ◌⊎◌, List, [], ◌∷◌, length, get_or}
use Rattle.std.proofs.Common.{pos, ◌+ℤ◌, sum, refl, ap₂, inl, inr, ⊎_elim, arith}
use lib.IntN.{zero-*ℤ}
use Rattle.std.proofs.lemmas.Bool.{and_from, cases_lt, le-leb}
use Rattle.std.proofs.lemmas.Bool.Decides.{nat_tests}
use Rattle.tariff.specs.Answers.{Answer, require}
use Rattle.tariff.specs.Division.{all_within, above_zero, division_answer}
use Rattle.tariff.specs.declared.refusal.Refusal.TheVariants.{TooManyClaims}
use Rattle.tariff.specs.Tables.{Tables, Limited}
use Rattle.tariff.specs.declared.blocks.Block.{Block}
use Rattle.tally.specs.DayPrices.{DayPrices, needed_prices, prices_of}
use Rattle.tally.specs.RuleLaws.{Handed}
use Rattle.tally.specs.MakeWhole.{largest_pair, make_whole_claims}
use Rattle.tally.specs.Numbered.{total, listed}
use Rattle.tally.specs.Pairs.{pair, delivered}
use Rattle.tally.specs.Settlement.{block_greatest, largest_holding, holdback, energy, settlement, make_whole}
use Rattle.tally.specs.States.{State, IsParty, hour_at}
use Rattle.tally.proofs.BlockHours.{IsHourIn, block_zero, block_greatest_bound, le_block_greatest}
use Rattle.tally.proofs.MakeWholeSize.{make_whole_size}
use Rattle.tally.proofs.Numbering.{total_zero, term_le, total_z_zero, length_listed, slice_index_listed, sum_listed}
use Rattle.tally.proofs.PriceSizes.{SmallPrices, needed_small}
use Rattle.tally.proofs.Revenue.{revenue_none, credits_none}
use Rattle.tally.proofs.SetUps.{few_parties}
use Rattle.tally.proofs.Sizes.{pair_size}
use Rattle.tally.proofs.Sound.{Sound}

-- a division within its limits is refused for the count of its claims alone
abbrev pub count_answer : ℕ → List ℕ → Answer
count_answer most claims = require (leb (above_zero claims) most) (TooManyClaims (above_zero claims) most)

pub only_counted : (total : ℕ) (claims : List ℕ) (places most : ℕ) → Handed total claims places
    → division_answer most total claims places ≡ count_answer most claims
only_counted total claims places most handed =
    by (cases_lt 0 total) handed.equal handed.few handed.small handed.within handed.claimed
  where
    by : (0 < total) ⊎ (total ≤ 0) → length claims ≡ places → places ≤ 12 → total ≤ 1000000000000 → all_within claims ≡ true
        → (0 < total → 0 < sum claims)
        → division_answer most total claims places ≡ count_answer most claims
    by (inl l) e few small within claimed = let h = claimed l in grind (arith, nat_tests)
    by (inr l) e few small within claimed = let z : total ≡ 0 = omega arith in grind (arith, nat_tests)

pub all_within_by_place : (claims : List ℕ) → ((i : ℕ) → i < length claims → get_or claims i 0 ≤ 500000) → all_within claims ≡ true
all_within_by_place [] h = refl
all_within_by_place (w ∷ ws) h =
    and_from (leb w 500000) (all_within ws) (le-leb w 500000 (h 0 (omega arith))) (all_within_by_place ws (λ i l. h (suc i) (omega arith)))

pub all_within_listed : (f : ℕ → ℕ) (n : ℕ) → ((k : ℕ) → 0 < k → k ≤ n → f k ≤ 500000) → all_within (listed f n) ≡ true
all_within_listed f n h =
    all_within_by_place (listed f n)
    (λ i l. let m : i < n = omega (arith, length_listed f n) in rw (slice_index_listed f n i m) (h (suc i) (omega arith) (omega arith)))

module _ (state : State) (sound : Sound state) (block : Block) (seller : ℕ) where
  largest_pair_size : (buyer : ℕ) → largest_pair state block seller buyer ≤ 10000
  unfolding largest_pair
  largest_pair_size buyer =
      block_greatest_bound state block (λ hour. pair (hour_at state hour) seller buyer) 10000
      (λ hour i. pair_size state.set_up.parties (hour_at state hour) (sound.hours hour) seller buyer)

  -- without claims there is no pair in the block's hours, so nothing is held, and nothing is lacking
  module _ (unclaimed : total (largest_pair state block seller) state.set_up.parties ≡ 0) where
    pair_none : (hour : ℕ) → IsHourIn state block hour → (buyer : ℕ) → 0 < buyer → buyer ≤ state.set_up.parties
        → pair (hour_at state hour) seller buyer ≡ 0
    unfolding largest_pair
    pair_none hour i buyer l m =
        omega (
          arith,
          le_block_greatest state block (λ hour. pair (hour_at state hour) seller buyer) hour i,
          term_le (largest_pair state block seller) buyer state.set_up.parties l m,
        )

    delivered_none : (hour : ℕ) → IsHourIn state block hour → (buyer : ℕ) → 0 < buyer → buyer ≤ state.set_up.parties
        → delivered (hour_at state hour) seller buyer ≡ 0
    delivered_none hour i buyer l m = omega (arith, (sound.hours hour).ordered.deployments seller buyer, pair_none hour i buyer l m)

    settlement_none : (prices : DayPrices) → settlement state prices block seller ≡ pos 0
    unfolding holdback energy
    settlement_none prices =
        total_z_zero (λ buyer. holdback state prices block seller buyer +ℤ energy state prices block seller buyer) state.set_up.parties
        (λ buyer l m. ap₂ ◌+ℤ◌
        (block_zero state block _ (λ hour i. rw (pair_none hour i buyer l m) (zero-*ℤ (prices_of state prices hour).holdback)))
        (block_zero state block _ (λ hour i. rw (delivered_none hour i buyer l m) (zero-*ℤ (prices_of state prices hour).energy))))

    module _ (meets : (hour : ℕ)
        → total (pair (hour_at state hour) seller) state.set_up.parties ≡ (hour_at state hour).holdings seller) where
      largest_holding_none : largest_holding state block seller ≡ 0
      unfolding largest_holding
      largest_holding_none =
          let h : block_greatest state block (λ hour. (hour_at state hour).holdings seller) ≤ 0 =
          block_greatest_bound state block (λ hour. (hour_at state hour).holdings seller) 0
          (λ hour i. omega (arith, meets hour, total_zero (pair (hour_at state hour) seller) state.set_up.parties (pair_none hour i))) in
          omega arith

      make_whole_none : (prices : DayPrices) → make_whole state prices block seller ≡ 0
      make_whole_none prices =
          rw (
            settlement_none prices,
            revenue_none state prices block seller largest_holding_none,
            credits_none state prices block seller largest_holding_none,
          ) refl

-- at any small prices
pub make_wholes_handed : (state : State) → Sound state
    → ((hour seller : ℕ) → IsParty state seller
    → total (pair (hour_at state hour) seller) state.set_up.parties ≡ (hour_at state hour).holdings seller)
    → (prices : DayPrices) → SmallPrices prices → (block : Block) (seller : ℕ) → IsParty state seller
    → Handed (make_whole state prices block seller) (make_whole_claims state block seller) state.set_up.parties
make_wholes_handed state sound meets prices small block seller party = record {
  equal = length_listed (largest_pair state block seller) state.set_up.parties;
  few = few_parties state.set_up sound.proper;
  small = let h = make_whole_size state sound block seller prices small in omega arith;
  within = all_within_listed (largest_pair state block seller) state.set_up.parties
      (λ buyer _ _. let h = largest_pair_size state sound block seller buyer in omega arith);
  claimed = λ above. ⊎_elim
      (λ (h : 0 < sum (make_whole_claims state block seller)). h)
      (λ (h : sum (make_whole_claims state block seller) ≤ 0).
      let none = make_whole_none state sound block seller (omega (arith, sum_listed (largest_pair state block seller) state.set_up.parties))
      (λ hour. meets hour seller party) prices in
      absurd (omega arith))
      (cases_lt 0 (sum (make_whole_claims state block seller)));
}

pub make_wholes_divisible : (state : State) → Sound state
    → ((hour seller : ℕ) → IsParty state seller
    → total (pair (hour_at state hour) seller) state.set_up.parties ≡ (hour_at state hour).holdings seller)
    → (tables : Tables) → Limited tables → (block : Block) (seller : ℕ) → IsParty state seller
    → Handed (make_whole state (needed_prices state tables) block seller) (make_whole_claims state block seller) state.set_up.parties
make_wholes_divisible state sound meets tables limited =
    make_wholes_handed state sound meets (needed_prices state tables) (needed_small state tables limited)
