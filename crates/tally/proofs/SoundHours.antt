-- What every hour that calls lead to keeps: the sizes of its figures, and that it is met where it is allotted. Assumes nothing.
use Rattle.std.proofs.Common.{◌≡◌, ℕ, ◌+◌, ◌-◌, ◌<◌, ◌≤◌, Bool, true, false, cond, eqb, leb}
use Rattle.std.proofs.Common.{List, ℤ, nat_abs, sym, refl, ap, ◌∙◌, subst, arith}
use Rattle.std.proofs.lemmas.Bool.{both_ways, eqb-true, leb-true, leb-false}
use Rattle.std.proofs.lemmas.Bool.Decides.{nat_tests}
use Rattle.tariff.specs.Answers.{granted}
use Rattle.tariff.specs.Division.{Division, LawfulRule, division_answer}
use Rattle.tariff.specs.declared.charges.Cover.{Cover}
use Rattle.tally.specs.Allotment.{counted_offer, surplus, requested, offered, spare, offers_suffice, allot_total}
use Rattle.tally.specs.Allotment.{allot_claims, held_whole, allotment, allot_answer, supply_answer}
use Rattle.tally.specs.Hours.{Hour, blank, with_result, with_offer, with_request, with_holdings, with_deployment, with_miss}
use Rattle.tally.specs.PairLaws.{Ordered}
use Rattle.tally.specs.Numbered.{total, listed, numbered, replaced}
use Rattle.tally.specs.Pairs.{pair, pairs_of}
use Rattle.tally.proofs.Granting.{then_first, then_next}
use Rattle.tally.proofs.Numbering.{total_add, total_same, total_zero}
use Rattle.tally.proofs.Overlaps.{buyers_filled, pair_within}
use Rattle.tally.proofs.Shares.{accepted, shares_total, shares_within}

-- an entered figure lies within its limit, and a number above the last party's has none
abbrev pub Entered : (parties party mw : ℕ) → Type 0
Entered parties party mw = (mw ≤ 5000) × (parties < party → mw ≡ 0)

pub record SoundHour (parties : ℕ) (hour : Hour) : Type 0 where
  pub results : (p : ℕ) → Entered parties p (nat_abs (hour.results p))
  pub offers : (p : ℕ) → Entered parties p (hour.offers p)
  pub requests : (p : ℕ) → Entered parties p (hour.requests p)
  -- nothing is held until the hour is allotted; then holdings come to the requests, within counted offer plus surplus
  pub unheld : hour.allotted ≡ false → (p : ℕ) → hour.holdings p ≡ 0
  pub sums : hour.allotted ≡ true → total hour.holdings parties ≡ total hour.requests parties
  pub within : (p : ℕ) → hour.holdings p ≤ counted_offer hour p + surplus hour p
  pub ordered : Ordered hour

-- what holds of the new figure and of the old ones holds of all
pub replaced_has : {A : Type 0} (P : ℕ → A → Type 0) (f : ℕ → A) (k : ℕ) (x : A) → P k x → ((i : ℕ) → P i (f i)) → (i : ℕ)
    → P i (replaced f k x i)
replaced_has P f k x new old i = by (eqb i k) refl
  where
    by : (b : Bool) → eqb i k ≡ b → P i (cond b x (f i))
    by true e = subst (λ j. P j x) (sym (eqb-true i k e)) new
    by false e = old i

pub blank_sound : (n : ℕ) → SoundHour n blank
blank_sound n = record {
  results = λ p. (omega arith, λ _. refl);
  offers = λ p. (omega arith, λ _. refl);
  requests = λ p. (omega arith, λ _. refl);
  unheld = λ _ p. refl;
  sums = λ _. refl;
  within = λ p. omega arith;
  ordered = record { deployments = λ s b. omega arith; misses = λ s b. omega arith };
}

module _ (n : ℕ) (hour : Hour) (sound : SoundHour n hour) where
  -- an hour that is not allotted has neither deployments nor misses
  module _ (unallotted : hour.allotted ≡ false) where
    undeployed : (s b : ℕ) → hour.deployed s b ≡ 0
    undeployed s b = omega (arith, sound.ordered.deployments s b, pair_within hour s b, sound.unheld unallotted s)

    -- so its entries may change
    entered : (new : Hour) → new.allotted ≡ hour.allotted → new.holdings ≡ hour.holdings → new.deployed ≡ hour.deployed
        → new.missed ≡ hour.missed
        → ((p : ℕ) → Entered n p (nat_abs (new.results p))) → ((p : ℕ) → Entered n p (new.offers p))
        → ((p : ℕ) → Entered n p (new.requests p))
        → SoundHour n new
    entered new a h d m results offers requests = record {
      results = results;
      offers = offers;
      requests = requests;
      unheld = λ _ p. ap (λ f. f p) h ∙ sound.unheld unallotted p;
      sums = λ is. absurd (both_ways hour.allotted unallotted (sym a ∙ is));
      within = λ p. omega (arith, ap (λ f. f p) h, sound.unheld unallotted p);
      ordered = record {
        deployments = λ s b. omega (arith, ap (λ f. f s b) d, undeployed s b);
        misses = λ s b. omega (arith, ap (λ f. f s b) d, ap (λ f. f s b) m, sound.ordered.misses s b);
      };
    }

    pub result_sound : (party : ℕ) (mw : ℤ) → party ≤ n → nat_abs mw ≤ 5000 → SoundHour n (with_result party mw hour)
    result_sound party mw known small =
        entered (with_result party mw hour) refl refl refl refl
        (replaced_has (λ p x. Entered n p (nat_abs x)) hour.results party mw (small, λ l. absurd (omega arith)) sound.results)
        sound.offers
        (replaced_has (Entered n) hour.requests party 0 (omega arith, λ _. refl) sound.requests)

    pub offer_sound : (party mw : ℕ) → party ≤ n → mw ≤ 5000 → SoundHour n (with_offer party mw hour)
    offer_sound party mw known small =
        entered (with_offer party mw hour) refl refl refl refl
        sound.results (replaced_has (Entered n) hour.offers party mw (small, λ l. absurd (omega arith)) sound.offers) sound.requests

    pub request_sound : (party mw : ℕ) → party ≤ n → mw ≤ 5000 → SoundHour n (with_request party mw hour)
    request_sound party mw known small =
        entered (with_request party mw hour) refl refl refl refl
        sound.results sound.offers (replaced_has (Entered n) hour.requests party mw (small, λ l. absurd (omega arith)) sound.requests)

-- what counted offers c and surpluses s are to hold of what is requested
module _ (c s : ℕ → ℕ) (wanted n most : ℕ) (rule : Division) (lawful : LawfulRule most rule)
    (supplied : wanted ≤ total c n + total s n) where
  abbrev shares : Bool → List ℕ
  shares b = rule (cond b wanted (wanted - total c n)) (cond b (listed c n) (listed s n))

  abbrev held : Bool → ℕ → ℕ
  held b p = cond b 0 (c p) + numbered (shares b) p

  abbrev Divides : Bool → Type 0
  Divides b = division_answer most (cond b wanted (wanted - total c n)) (cond b (listed c n) (listed s n)) n ≡ granted

  held_total : (b : Bool) → leb wanted (total c n) ≡ b → Divides b → total (held b) n ≡ wanted
  held_total true e ok =
      total_same (held true) (numbered (shares true)) n (λ p _ _. omega arith)
      ∙ shares_total c n wanted (shares true) (accepted most wanted rule c n lawful ok)
  held_total false e ok =
      let whole = shares_total s n (wanted - total c n) (shares false) (accepted most (wanted - total c n) rule s n lawful ok) in
      total_add c (numbered (shares false)) n ∙ omega (arith, leb-false wanted (total c n) e, whole)

  held_within : (b : Bool) → leb wanted (total c n) ≡ b → Divides b → (p : ℕ) → held b p ≤ c p + s p
  held_within true e ok p =
      omega (arith, shares_within c n wanted (shares true) (accepted most wanted rule c n lawful ok) (leb-true wanted (total c n) e) p)
  held_within false e ok p =
      let kept = accepted most (wanted - total c n) rule s n lawful ok in
      omega (arith, shares_within s n (wanted - total c n) (shares false) kept (omega arith) p)

module _ (n : ℕ) (hour : Hour) (sound : SoundHour n hour) where
  module _ (unallotted : hour.allotted ≡ false) (most number : ℕ) (rule : Division) (lawful : LawfulRule most rule)
      (ok : allot_answer n hour most number ≡ granted) where
    supplied : requested n hour ≤ offered n hour + spare n hour
    supplied = let first = then_first (supply_answer n hour number) _ ok in grind (arith, nat_tests)

    -- the rule is consulted where anything is requested
    divides : eqb (requested n hour) 0 ≡ false → division_answer most (allot_total n hour) (allot_claims n hour) n ≡ granted
    divides e = subst (λ b. cond b granted (division_answer most (allot_total n hour) (allot_claims n hour) n) ≡ granted) e
        (then_next (supply_answer n hour number) _ ok)

    holdings_total : total (allotment n hour rule) n ≡ requested n hour
    unfolding allotment
    holdings_total = by (eqb (requested n hour) 0) refl
      where
        by : (b : Bool) → eqb (requested n hour) 0 ≡ b
            → total (λ p. cond b 0 (held_whole n hour p + numbered (rule (allot_total n hour) (allot_claims n hour)) p)) n
            ≡ requested n hour
        by true e = total_zero _ n (λ _ _ _. refl) ∙ sym (eqb-true _ _ e)
        by false e = held_total (counted_offer hour) (surplus hour) (requested n hour) n most rule lawful supplied
            (offers_suffice n hour) refl (divides e)

    holdings_within : (p : ℕ) → allotment n hour rule p ≤ counted_offer hour p + surplus hour p
    unfolding allotment
    holdings_within p = by (eqb (requested n hour) 0) refl
      where
        by : (b : Bool) → eqb (requested n hour) 0 ≡ b
            → cond b 0 (held_whole n hour p + numbered (rule (allot_total n hour) (allot_claims n hour)) p)
            ≤ counted_offer hour p + surplus hour p
        by true e = omega arith
        by false e = held_within (counted_offer hour) (surplus hour) (requested n hour) n most rule lawful supplied
            (offers_suffice n hour) refl (divides e) p

    pub allot_sound : SoundHour n (with_holdings (allotment n hour rule) hour)
    allot_sound = record {
      results = sound.results;
      offers = sound.offers;
      requests = sound.requests;
      unheld = λ isnt. absurd (both_ways true isnt refl);
      sums = λ _. holdings_total;
      within = holdings_within;
      ordered = record {
        deployments = λ s b. omega (arith, undeployed n hour sound unallotted s b);
        misses = sound.ordered.misses;
      };
    }

  module _ (is_allotted : hour.allotted ≡ true) where
    -- a deployment is divided within the buyer's pairs
    module _ (buyer mw most : ℕ) (rule : Division) (lawful : LawfulRule most rule) (is_buyer : 0 < buyer) (known : buyer ≤ n)
        (within : mw ≤ hour.requests buyer) (ok : division_answer most mw (pairs_of n hour buyer) n ≡ granted) where
      abbrev parts : ℕ → ℕ
      parts = numbered (rule mw (pairs_of n hour buyer))

      part_within : (seller : ℕ) → parts seller ≤ pair hour seller buyer
      part_within =
          shares_within (λ s. pair hour s buyer) n mw (rule mw (pairs_of n hour buyer))
          (accepted most mw rule (λ s. pair hour s buyer) n lawful ok)
          (omega (arith, buyers_filled hour n (sound.sums is_allotted) buyer is_buyer known))

      pub deploy_sound : SoundHour n (with_deployment buyer parts hour)
      unfolding pair
      deploy_sound = record {
        results = sound.results;
        offers = sound.offers;
        requests = sound.requests;
        unheld = sound.unheld;
        sums = sound.sums;
        within = sound.within;
        ordered = record {
          deployments =
              λ s. replaced_has (λ b x. x ≤ pair hour s b) (hour.deployed s) buyer (parts s) (part_within s) (sound.ordered.deployments s);
          misses = λ s b. cleared (eqb b buyer) (hour.missed s b) (parts s) (hour.deployed s b) (sound.ordered.misses s b);
        };
      }
        where
          cleared : (c : Bool) (x y z : ℕ) → x ≤ z → cond c 0 x ≤ cond c y z
          cleared true x y z h = omega arith
          cleared false x y z h = h

    pub miss_sound : (seller buyer mwh : ℕ) (cover : Cover) → mwh ≤ hour.deployed seller buyer
        → SoundHour n (with_miss seller buyer mwh cover hour)
    unfolding pair
    miss_sound seller buyer mwh cover within = record {
      results = sound.results;
      offers = sound.offers;
      requests = sound.requests;
      unheld = sound.unheld;
      sums = sound.sums;
      within = sound.within;
      ordered = record {
        deployments = sound.ordered.deployments;
        misses =
            replaced_has (λ s row. (b : ℕ) → row b ≤ hour.deployed s b) hour.missed seller (replaced (hour.missed seller) buyer mwh)
            (replaced_has (λ b x. x ≤ hour.deployed seller b) (hour.missed seller) buyer mwh within (sound.ordered.misses seller))
            sound.ordered.misses;
      };
    }
