-- What is handed to a rule lies within its limits, so that of its refusals only 73 comes out of a call. Assumes nothing.
use Rattle.std.proofs.Common.{◌≡◌, ℕ, ◌+◌, ◌-◌, ◌<◌, ◌≤◌, Bool, true, false, cond, refl, arith}
use Rattle.std.proofs.lemmas.Bool.{leb-true}
use Rattle.std.proofs.lemmas.Bool.Decides.{nat_tests}
use Rattle.tariff.specs.Answers.{granted}
use Rattle.tariff.specs.declared.blocks.Block.{Block}
use Rattle.tally.specs.Allotment.{counted_offer, surplus, requested, offered, spare}
use Rattle.tally.specs.Allotment.{offers_suffice, supply_answer, allot_total, allot_claims}
use Rattle.tally.specs.DayPrices.{DayPrices}
use Rattle.tally.specs.Hours.{Hour}
use Rattle.tally.specs.MakeWhole.{make_whole_claims}
use Rattle.tally.specs.RuleLaws.{Handed, HandsOver, HandedWithinLimits, OnlyClaimCountsRefused}
use Rattle.tally.specs.Numbered.{total, listed}
use Rattle.tally.specs.Pairs.{pair, pairs_of}
use Rattle.tally.specs.Settlement.{make_whole}
use Rattle.tally.specs.States.{State, IsParty, hour_at}
use Rattle.tally.specs.Tally.{tallied}
use Rattle.tally.proofs.Divisions.{all_within_listed, make_wholes_handed, make_wholes_divisible}
use Rattle.tally.proofs.Refusing.{answers_late}
use Rattle.tally.proofs.Numbering.{length_listed, sum_listed, total_bound}
use Rattle.tally.proofs.PriceSizes.{SmallPrices}
use Rattle.tally.proofs.Overlaps.{buyers_filled, sellers_filled}
use Rattle.tally.proofs.SetUps.{few_parties}
use Rattle.tally.proofs.Sizes.{counted_size, surplus_size, pair_size, pairs_within}
use Rattle.tally.proofs.Sound.{Sound, sound}
use Rattle.tally.proofs.SoundHours.{SoundHour}

-- a total of claims that are small
divided : (f : ℕ → ℕ) (n t : ℕ) → n ≤ 12 → t ≤ 1000000000000 → t ≤ total f n → ((k : ℕ) → f k ≤ 500000) → Handed t (listed f n) n
divided f n t few small claimed within = record {
  equal = length_listed f n;
  few = few;
  small = small;
  within = all_within_listed f n (λ k _ _. within k);
  claimed = λ h. omega (arith, sum_listed f n);
}

module _ (n number : ℕ) (hour : Hour) (sound : SoundHour n hour) (few : n ≤ 12) where
  requested_size : requested n hour ≤ 60000
  requested_size = let b = total_bound hour.requests 5000 n (λ k _ _. (sound.requests k).0) in omega arith

  allot_divided : supply_answer n hour number ≡ granted → Handed (allot_total n hour) (allot_claims n hour) n
  allot_divided ok = by (offers_suffice n hour) refl
    where
      supplied : requested n hour ≤ offered n hour + spare n hour
      supplied = grind (arith, nat_tests)

      by : (b : Bool) → offers_suffice n hour ≡ b
          → Handed (cond b (requested n hour) (requested n hour - offered n hour))
          (cond b (listed (counted_offer hour) n) (listed (surplus hour) n)) n
      by true e =
          divided (counted_offer hour) n (requested n hour) few (omega (arith, requested_size)) (leb-true _ _ e)
          (λ k. let s = counted_size n hour sound k in omega arith)
      by false e =
          divided (surplus hour) n (requested n hour - offered n hour) few (omega (arith, requested_size)) (omega (arith, supplied))
          (λ k. let s = surplus_size n hour sound k in omega arith)

  deploy_divided : hour.allotted ≡ true → (buyer mw : ℕ) → 0 < buyer → buyer ≤ n → mw ≤ hour.requests buyer
      → Handed mw (pairs_of n hour buyer) n
  deploy_divided is buyer mw is_buyer known within =
      divided (λ s. pair hour s buyer) n mw few (let s = (sound.requests buyer).0 in omega arith)
      (omega (arith, buyers_filled hour n (sound.sums is) buyer is_buyer known))
      (λ s. let p = pair_size n hour sound s buyer in omega arith)

  -- pairs come to holdings where nothing is held, too
  pairs_meet_holdings : (seller : ℕ) → 0 < seller → seller ≤ n → total (pair hour seller) n ≡ hour.holdings seller
  pairs_meet_holdings seller is_seller known = by hour.allotted refl
    where
      by : (b : Bool) → hour.allotted ≡ b → total (pair hour seller) n ≡ hour.holdings seller
      by true is = sellers_filled hour n (sound.sums is) seller is_seller known
      by false isnt = omega (arith, pairs_within hour seller n, sound.unheld isnt seller)

pairs_meet : (state : State) → Sound state → (hour seller : ℕ) → IsParty state seller
    → total (pair (hour_at state hour) seller) state.set_up.parties ≡ (hour_at state hour).holdings seller
pairs_meet state sound hour seller (is_seller, known) =
    pairs_meet_holdings state.set_up.parties hour (hour_at state hour) (sound.hours hour)
    (few_parties state.set_up sound.proper) seller is_seller known

-- what a seller lacks, at any small prices
pub make_wholes_at : (state : State) → Sound state → (prices : DayPrices) → SmallPrices prices → (block : Block) (seller : ℕ)
    → IsParty state seller
    → Handed (make_whole state prices block seller) (make_whole_claims state block seller) state.set_up.parties
make_wholes_at state sound = make_wholes_handed state sound (pairs_meet state sound)

hands_over : (state : State) → Sound state → HandsOver state
hands_over state sound =
    let few = few_parties state.set_up sound.proper in
    record {
      allots = λ hour. allot_divided state.set_up.parties hour (hour_at state hour) (sound.hours hour) few;
      deployments = λ hour buyer mw (is_buyer, known) is. deploy_divided state.set_up.parties hour (hour_at state hour)
          (sound.hours hour) few is buyer mw is_buyer known;
      make_wholes = make_wholes_divisible state sound (pairs_meet state sound);
    }

pub handed_within_limits_lem : HandedWithinLimits
handed_within_limits_lem set_up events proper lawful = hands_over _ (sound set_up events proper lawful)

pub only_claim_counts_refused_lem : OnlyClaimCountsRefused
only_claim_counts_refused_lem set_up events proper lawful event ruled =
    let state = (tallied set_up events).state in
    (answers_late state (hands_over state (sound set_up events proper lawful)) event ruled).late
