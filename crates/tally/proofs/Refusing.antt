-- Which numbers calls are denied by: of those from 70 on, only 73, with the count of claims and the limit. Assumes nothing.
use Rattle.std.proofs.Common.{◌≡◌, ℕ, zero, suc, ◌<◌, ◌≤◌, Bool, true, false, cond, not, eqb}
use Rattle.std.proofs.Common.{leb, List, ℤ, nat_abs, refl, ap, subst, sym, arith}
use Rattle.std.proofs.lemmas.Bool.{leb-true, leb-false}
use Rattle.tariff.specs.Answers.{Answer, granted, denied, ◌then◌, in_order}
use Rattle.tariff.specs.Blocks.{hours_of_day}
use Rattle.tariff.specs.Figures.{between}
use Rattle.tariff.specs.Division.{division_answer, above_zero}
use Rattle.tariff.specs.Tables.{Tables, Limited}
use Rattle.tariff.specs.declared.blocks.Block.{Block}
use Rattle.tariff.specs.declared.blocks.Block.TheVariants.{Heavy, Light}
use Rattle.tariff.specs.declared.refusal.Refusal.TheVariants.{HourNotAllotted, AboveRequest}
use Rattle.tally.specs.Allotment.{supply_answer}
use Rattle.tally.specs.DayPrices.{needed_prices, needed_quotes_answer}
use Rattle.tally.specs.Denials.{answer, most_mw, page_entries, day_is_open, no_day_is_open}
use Rattle.tally.specs.Denials.{is_hour_at, is_party_at, is_figure_at, is_unallotted}
use Rattle.tally.specs.Denials.{is_allotted, is_within_served, is_page}
use Rattle.tally.specs.Events.{Event, open_day, enter_result, enter_offer, enter_request, allot_hour}
use Rattle.tally.specs.Events.{deploy, enter_miss, close_day, void_day, start_year, Lawfully}
use Rattle.tally.specs.MakeWhole.{sharing_answer}
use Rattle.tally.specs.RuleLaws.{Handed, HandsOver, TooMany, most_of}
use Rattle.tally.specs.Settlement.{make_whole}
use Rattle.tally.specs.States.{State, hour_named}
use Rattle.tally.proofs.Divisions.{only_counted}
use Rattle.tally.proofs.Findings.{named}
use Rattle.tally.proofs.Granting.{passed}

abbrev number : Answer → ℕ
number granted = 0
number (denied n first second) = n

abbrev places : Answer → ℕ × ℕ
places granted = (0, 0)
places (denied n first second) = (first, second)

-- an answer that is no refusal of a rule, or that for too many claims
pub record Late (most : ℕ) (a : Answer) : Type 0 where
  pub late : (number first second : ℕ) → a ≡ denied number first second → 70 ≤ number → TooMany most number first second

granted_late : {most : ℕ} → Late most granted
granted_late = record { late = λ n first second e h. absurd (omega (arith, ap number e)) }

-- a test that denies by a number below 70, and the last one of a division
early : {most : ℕ} → (b : Bool) (n p q : ℕ) → n < 70 → Late most (cond b granted (denied n p q))
early true n p q l = granted_late
early false n p q l = record { late = λ k first second e h. absurd (omega (arith, ap number e)) }

last : (most count : ℕ) → Late most (cond (leb count most) granted (denied 73 count most))
last most count = by (leb count most) refl
  where
    by : (b : Bool) → leb count most ≡ b → Late most (cond b granted (denied 73 count most))
    by true e = granted_late
    by false e = record {
      late = λ k first second d h. record {
        told = sym (ap number d);
        stated = sym (ap (λ a. (places a).1) d);
        above = omega (arith, leb-false count most e, ap (λ a. (places a).0) d, ap (λ a. (places a).1) d);
      };
    }

then_late : {most : ℕ} → (a b : Answer) → Late most a → (a ≡ granted → Late most b) → Late most (a then b)
then_late granted b p q = q refl
then_late (denied n first second) b p q = p

-- two tests that need nothing of one another
both_late : {most : ℕ} → (a b : Answer) → Late most a → Late most b → Late most (a then b)
both_late a b p q = then_late a b p (λ _. q)

in_order_late : {most : ℕ} → (f : ℕ → Answer) (n : ℕ) → ((k : ℕ) → 0 < k → k ≤ n → Late most (f k)) → Late most (in_order f n)
unfolding in_order
in_order_late f zero h = granted_late
in_order_late f (suc n) h =
    then_late (in_order f n) (f (suc n)) (in_order_late f n (λ k l m. h k l (omega arith))) (λ _. h (suc n) (omega arith) (omega arith))

-- a division of what is within its limits, where there is one
division_late : (most total : ℕ) (claims : List ℕ) (places : ℕ) → Handed total claims places
    → Late most (division_answer most total claims places)
division_late most total claims places handed =
    subst (Late most) (sym (only_counted total claims places most handed)) (last most (above_zero claims))

if_divided : {most : ℕ} → (none : Bool) (a : Answer) → Late most a → Late most (cond none granted a)
if_divided true a h = granted_late
if_divided false a h = h

module _ (state : State) where
  day_late : {most : ℕ} → Late most (day_is_open state)
  day_late = early state.day.is_open 32 0 0 (omega arith)

  no_day_late : {most : ℕ} → Late most (no_day_is_open state)
  no_day_late = early (not state.day.is_open) 31 0 0 (omega arith)

  hour_late : {most : ℕ} → (hour : ℤ) → Late most (is_hour_at state 1 hour)
  hour_late hour = early (between 1 hours_of_day hour) 35 1 0 (omega arith)

  party_late : {most : ℕ} → (position : ℕ) (party : ℤ) → Late most (is_party_at state position party)
  party_late position party = early (between 1 state.set_up.parties party) 36 position 0 (omega arith)

  figure_late : {most : ℕ} → (position : ℕ) (mw : ℤ) → Late most (is_figure_at state position mw)
  figure_late position mw = early (between 0 most_mw mw) 37 position 0 (omega arith)

  unallotted_late : {most : ℕ} → (hour : ℤ) → Late most (is_unallotted state hour)
  unallotted_late hour = early (not (hour_named state hour).allotted) 38 (nat_abs hour) 0 (omega arith)

  allotted_late : {most : ℕ} → (hour : ℤ) → Late most (is_allotted state hour)
  allotted_late hour = early (hour_named state hour).allotted 39 (nat_abs hour) 0 (omega arith)

  page_late : {most : ℕ} → (count : ℕ) → Late most (is_page state count)
  page_late count = early (eqb count page_entries) 25 count 0 (omega arith)

  -- an entry: its hour, party and figure
  entry_late : {most : ℕ} → (hour party mw : ℤ) (rest : Answer) → Late most rest
      → Late most (day_is_open state then is_hour_at state 1 hour then is_party_at state 2 party then is_figure_at state 3 mw then rest)
  entry_late hour party mw rest h =
      both_late _ _ day_late (both_late _ _ (hour_late hour) (both_late _ _ (party_late 2 party) (both_late _ _ (figure_late 3 mw) h)))

  module _ (ok : HandsOver state) where
    quotes_late : {most : ℕ} → (tables : Tables) (hour : ℕ) → Late most (needed_quotes_answer state tables hour)
    quotes_late tables hour =
        both_late _ _ (early _ 66 hour 1 (omega arith)) (both_late _ _ (early _ 66 hour 2 (omega arith)) (early _ 66 hour 3 (omega arith)))

    sharing_late : (tables : Tables) → Limited tables → (most : ℕ) (block : Block) (seller : ℕ) → 0 < seller → seller ≤ state.set_up.parties
        → Late most (sharing_answer state (needed_prices state tables) most block seller)
    sharing_late tables limited most block seller l m =
        if_divided (eqb (make_whole state (needed_prices state tables) block seller) 0) _
        (division_late most _ _ _ (ok.make_wholes tables limited block seller (l, m)))

    pub answers_late : (event : Event) → Lawfully event → Late (most_of event) (answer state event)
    answers_late (open_day day kind month) lawful =
        both_late _ _ no_day_late (both_late _ _ (early _ 33 1 0 (omega arith)) (early _ 34 3 0 (omega arith)))
    answers_late (enter_result hour party mw) lawful =
        both_late _ _ day_late (both_late _ _ (hour_late hour) (both_late _ _ (party_late 2 party)
        (both_late _ _ (early _ 37 3 0 (omega arith)) (unallotted_late hour))))
    answers_late (enter_offer hour party mw) lawful = entry_late hour party mw _ (unallotted_late hour)
    answers_late (enter_request hour party mw) lawful =
        entry_late hour party mw _ (both_late _ _ (unallotted_late hour) (early _ 41 (nat_abs hour) (nat_abs party) (omega arith)))
    answers_late (allot_hour hour most meaning) lawful =
        both_late _ _ day_late (both_late _ _ (hour_late hour) (both_late _ _ (unallotted_late hour)
        (then_late (supply_answer state.set_up.parties (hour_named state hour) (nat_abs hour)) _ (early _ 61 (nat_abs hour) _ (omega arith))
        (λ supplied. if_divided _ _ (division_late most _ _ _ (ok.allots (nat_abs hour) supplied))))))
    answers_late (deploy hour buyer mw most meaning) lawful =
        both_late _ _ day_late (both_late _ _ (hour_late hour) (then_late (is_party_at state 2 buyer) _ (party_late 2 buyer)
        (λ known. both_late _ _ (figure_late 3 mw) (then_late (is_allotted state hour) _ (allotted_late hour)
        (λ is. then_late (is_within_served state hour buyer mw) _ (early _ 42 (nat_abs hour) (nat_abs buyer) (omega arith))
        (λ within. division_late most _ _ _
        (ok.deployments (nat_abs hour) (nat_abs buyer) (nat_abs mw) (named state 2 buyer known)
        (passed _ (HourNotAllotted (nat_abs hour)) is)
        (leb-true _ _ (passed _ (AboveRequest (nat_abs hour) (nat_abs buyer)) within)))))))))
    answers_late (enter_miss hour seller buyer mwh cover) lawful =
        both_late _ _ day_late (both_late _ _ (hour_late hour) (both_late _ _ (party_late 2 seller) (both_late _ _ (party_late 3 buyer)
        (both_late _ _ (figure_late 4 mwh) (both_late _ _ (allotted_late hour)
        (early _ 51 (nat_abs seller) (nat_abs buyer) (omega arith)))))))
    answers_late (close_day tables most meanings heavy_page light_page) lawful =
        both_late _ _ (page_late heavy_page) (both_late _ _ (page_late light_page) (both_late _ _ day_late
        (both_late _ _ (in_order_late (needed_quotes_answer state tables) hours_of_day (λ hour _ _. quotes_late tables hour))
        (both_late _ _
        (in_order_late (sharing_answer state (needed_prices state tables) most Heavy) state.set_up.parties
        (sharing_late tables lawful.0 most Heavy))
        (in_order_late (sharing_answer state (needed_prices state tables) most Light) state.set_up.parties
        (sharing_late tables lawful.0 most Light))))))
    answers_late void_day lawful = day_late
    answers_late start_year lawful = no_day_late
