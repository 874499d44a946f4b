-- What a granted call has found. Assumes nothing.
use Rattle.std.proofs.Common.{◌≡◌, ℕ, ◌+◌, ◌≤◌, max, true, false, ℤ, nat_abs}
use Rattle.std.proofs.lemmas.Bool.{eqb-true, leb-true, not-true}
use Rattle.tariff.specs.Answers.{Answer, granted, require, ◌then◌, in_order}
use Rattle.tariff.specs.Division.{Division}
use Rattle.tariff.specs.Blocks.{hours_of_day, last_day}
use Rattle.tariff.specs.Figures.{between}
use Rattle.tariff.specs.Tables.{Tables}
use Rattle.tariff.specs.declared.blocks.DayKind.{DayKind}
use Rattle.tariff.specs.declared.charges.Cover.{Cover}
use Rattle.tariff.specs.declared.refusal.Refusal.TheVariants.{PageSize, DayOpen, NoDayOpen, Day, Month, Party, Figure}
use Rattle.tariff.specs.declared.refusal.Refusal.TheVariants.{HourAllotted, HourNotAllotted, AboveRequest, AboveDeployment}
use Rattle.tally.specs.Allotment.{allot_answer}
use Rattle.tally.specs.DayPrices.{needed_prices, needed_quotes_answer}
use Rattle.tally.specs.Denials.{most_mw, answer, day_is_open, no_day_is_open, is_hour_at, is_party_at, is_figure_at, is_result_at, is_page}
use Rattle.tally.specs.Denials.{is_unallotted, is_allotted, is_within_served}
use Rattle.tally.specs.Events.{open_day, enter_result, enter_offer, enter_request, allot_hour, deploy, enter_miss, close_day}
use Rattle.tally.specs.MakeWhole.{sharings_answer}
use Rattle.tally.specs.Pairs.{served, deploy_answer}
use Rattle.tally.specs.States.{State, IsParty, hour_named, months_of_year}
use Rattle.tally.proofs.Granting.{then_first, then_next, passed, within_limits}

module _ (state : State) where
  unallotted : (hour : ℤ) → is_unallotted state hour ≡ granted → (hour_named state hour).allotted ≡ false
  unallotted hour ok = not-true _ (passed _ (HourAllotted (nat_abs hour)) ok)

  pub named : (position : ℕ) (party : ℤ) → is_party_at state position party ≡ granted → IsParty state (nat_abs party)
  named position party ok = within_limits 1 state.set_up.parties party (passed _ (Party position) ok)

  small : (position : ℕ) (mw : ℤ) → is_figure_at state position mw ≡ granted → nat_abs mw ≤ 5000
  small position mw ok = (within_limits 0 most_mw mw (passed _ (Figure position) ok)).1

  -- an entry that comes before the allot: the hour's state, the party and the figure
  pub record Entry (hour party mw : ℤ) : Type 0 where
    pub unallotted : (hour_named state hour).allotted ≡ false
    pub known : IsParty state (nat_abs party)
    pub size : nat_abs mw ≤ 5000

  -- offers end with the test of the hour, requests have one more
  entry : (hour party mw : ℤ) (last : Answer) → (last ≡ granted → is_unallotted state hour ≡ granted)
      → (day_is_open state then is_hour_at state 1 hour then is_party_at state 2 party then is_figure_at state 3 mw then last) ≡ granted
      → Entry hour party mw
  entry hour party mw last allowed ok =
      let third = then_next (is_hour_at state 1 hour) _ (then_next (day_is_open state) _ ok) in
      let fourth = then_next (is_party_at state 2 party) _ third in
      record {
        unallotted = unallotted hour (allowed (then_next (is_figure_at state 3 mw) _ fourth));
        known = named 2 party (then_first (is_party_at state 2 party) _ third);
        size = small 3 mw (then_first (is_figure_at state 3 mw) _ fourth);
      }

  pub offer_found : (hour party mw : ℤ) → answer state (enter_offer hour party mw) ≡ granted → Entry hour party mw
  offer_found hour party mw ok = entry hour party mw (is_unallotted state hour) (λ e. e) ok

  pub request_found : (hour party mw : ℤ) → answer state (enter_request hour party mw) ≡ granted → Entry hour party mw
  request_found hour party mw ok = entry hour party mw _ (λ e. then_first (is_unallotted state hour) _ e) ok

  pub result_found : (hour party mw : ℤ) → answer state (enter_result hour party mw) ≡ granted → Entry hour party mw
  result_found hour party mw ok =
      let third = then_next (is_hour_at state 1 hour) _ (then_next (day_is_open state) _ ok) in
      let fourth = then_next (is_party_at state 2 party) _ third in
      record {
        unallotted = unallotted hour (then_next (is_result_at state 3 mw) _ fourth);
        known = named 2 party (then_first (is_party_at state 2 party) _ third);
        size = leb-true _ _ (passed _ (Figure 3) (then_first (is_result_at state 3 mw) _ fourth));
      }

  pub record Allot (hour : ℤ) (most : ℕ) : Type 0 where
    pub unallotted : (hour_named state hour).allotted ≡ false
    pub supplied : allot_answer state.set_up.parties (hour_named state hour) most (nat_abs hour) ≡ granted

  pub allot_found : (hour : ℤ) (most : ℕ) (meaning : Division) → answer state (allot_hour hour most meaning) ≡ granted → Allot hour most
  allot_found hour most meaning ok =
      let third = then_next (is_hour_at state 1 hour) _ (then_next (day_is_open state) _ ok) in
      record {
        unallotted = unallotted hour (then_first (is_unallotted state hour) _ third);
        supplied = then_next (is_unallotted state hour) _ third;
      }

  pub record Deployment (hour buyer mw : ℤ) (most : ℕ) : Type 0 where
    pub allotted : (hour_named state hour).allotted ≡ true
    pub known : IsParty state (nat_abs buyer)
    pub within : nat_abs mw ≤ served (hour_named state hour) (nat_abs buyer)
    pub divided : deploy_answer state.set_up.parties (hour_named state hour) most (nat_abs buyer) (nat_abs mw) ≡ granted

  pub deploy_found : (hour buyer mw : ℤ) (most : ℕ) (meaning : Division) → answer state (deploy hour buyer mw most meaning) ≡ granted
      → Deployment hour buyer mw most
  deploy_found hour buyer mw most meaning ok =
      let third = then_next (is_hour_at state 1 hour) _ (then_next (day_is_open state) _ ok) in
      let fifth = then_next (is_figure_at state 3 mw) _ (then_next (is_party_at state 2 buyer) _ third) in
      let sixth = then_next (is_allotted state hour) _ fifth in
      record {
        allotted = passed _ (HourNotAllotted (nat_abs hour)) (then_first (is_allotted state hour) _ fifth);
        known = named 2 buyer (then_first (is_party_at state 2 buyer) _ third);
        within = leb-true _ _
            (passed _ (AboveRequest (nat_abs hour) (nat_abs buyer)) (then_first (is_within_served state hour buyer mw) _ sixth));
        divided = then_next (is_within_served state hour buyer mw) _ sixth;
      }

  pub record Miss (hour seller buyer mwh : ℤ) : Type 0 where
    pub allotted : (hour_named state hour).allotted ≡ true
    pub within : nat_abs mwh ≤ (hour_named state hour).deployed (nat_abs seller) (nat_abs buyer)

  pub miss_found : (hour seller buyer mwh : ℤ) (cover : Cover) → answer state (enter_miss hour seller buyer mwh cover) ≡ granted
      → Miss hour seller buyer mwh
  miss_found hour seller buyer mwh cover ok =
      let fourth = then_next (is_party_at state 2 seller) _ (then_next (is_hour_at state 1 hour) _ (then_next (day_is_open state) _ ok)) in
      let sixth = then_next (is_figure_at state 4 mwh) _ (then_next (is_party_at state 3 buyer) _ fourth) in
      record {
        allotted = passed _ (HourNotAllotted (nat_abs hour)) (then_first (is_allotted state hour) _ sixth);
        within = leb-true _ _ (passed _ (AboveDeployment (nat_abs seller) (nat_abs buyer)) (then_next (is_allotted state hour) _ sixth));
      }

  pub record Opening (day month : ℤ) : Type 0 where
    pub shut : state.day.is_open ≡ false
    pub later : state.day.number + 1 ≤ nat_abs day
    pub last : nat_abs day ≤ 4000
    pub in_year : (max 1 state.year.month ≤ nat_abs month) × (nat_abs month ≤ 12)

  pub open_found : (day : ℤ) (kind : DayKind) (month : ℤ) → answer state (open_day day kind month) ≡ granted → Opening day month
  open_found day kind month ok =
      let second = then_next (no_day_is_open state) _ ok in
      let limits = within_limits (state.day.number + 1) last_day day (passed _ (Day 1) (then_first test _ second)) in
      record {
        shut = not-true _ (passed _ DayOpen (then_first (no_day_is_open state) _ ok));
        later = limits.0;
        last = limits.1;
        in_year = within_limits (max 1 state.year.month) months_of_year month (passed _ (Month 3) (then_next test _ second));
      }
    where
      test : Answer
      test = require (between (state.day.number + 1) last_day day) (Day 1)

  pub record Closing (tables : Tables) (most heavy_page light_page : ℕ) : Type 0 where
    pub heavy : heavy_page ≡ 144
    pub light : light_page ≡ 144
    pub is_open : state.day.is_open ≡ true
    pub priced : in_order (needed_quotes_answer state tables) hours_of_day ≡ granted
    pub shared : sharings_answer state (needed_prices state tables) most ≡ granted

  pub close_found : (tables : Tables) (most : ℕ) (meanings : ℕ → Division) (heavy_page light_page : ℕ)
      → answer state (close_day tables most meanings heavy_page light_page) ≡ granted → Closing tables most heavy_page light_page
  close_found tables most meanings heavy_page light_page ok =
      let second = then_next (is_page state heavy_page) _ ok in
      let third = then_next (is_page state light_page) _ second in
      let fourth = then_next (day_is_open state) _ third in
      record {
        heavy = eqb-true _ _ (passed _ (PageSize heavy_page) (then_first (is_page state heavy_page) _ ok));
        light = eqb-true _ _ (passed _ (PageSize light_page) (then_first (is_page state light_page) _ second));
        is_open = passed _ NoDayOpen (then_first (day_is_open state) _ third);
        priced = then_first (in_order (needed_quotes_answer state tables) hours_of_day) _ fourth;
        shared = then_next (in_order (needed_quotes_answer state tables) hours_of_day) _ fourth;
      }
