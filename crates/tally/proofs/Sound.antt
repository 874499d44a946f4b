-- What every state that calls lead to keeps. Assumes nothing.
use Rattle.std.proofs.Common.{◌≡◌, ℕ, ◌+◌, ◌≤◌, max, Bool, true, false, cond, eqb, List, [], ◌∷◌, nat_abs, arith}
use Rattle.std.proofs.lemmas.Bool.{false≢true, both_ways, not-true}
use Rattle.tariff.specs.Blocks.{hours_of_day}
use Rattle.tariff.specs.Answers.{granted}
use Rattle.tariff.specs.declared.refusal.Refusal.TheVariants.{DayOpen}
use Rattle.tally.specs.Allotment.{allotted_by}
use Rattle.tally.specs.Charges.{missed_at, is_failure_day, month_miss}
use Rattle.tally.specs.Denials.{answer}
use Rattle.tally.specs.Events.{Event, open_day, enter_result, enter_offer, enter_request, allot_hour, deploy, enter_miss}
use Rattle.tally.specs.Events.{close_day, void_day, start_year, Lawfully, AllLawful}
use Rattle.tally.specs.Hours.{Hour, with_result, with_offer, with_request, with_miss}
use Rattle.tally.specs.Pairs.{deployed_by}
use Rattle.tally.specs.States.{State, SetUp, Proper, on_hour, hour_at}
use Rattle.tally.specs.Tally.{done, tallied}
use Rattle.tally.proofs.Findings.{open_found, result_found, offer_found, request_found, allot_found, deploy_found, miss_found, close_found}
use Rattle.tally.proofs.Granting.{passed}
use Rattle.tally.proofs.Numbering.{greatest_bound}
use Rattle.tally.proofs.Sizes.{misses_size}
use Rattle.tally.proofs.SoundHours.{SoundHour, replaced_has, blank_sound, result_sound, offer_sound}
use Rattle.tally.proofs.SoundHours.{request_sound, allot_sound, deploy_sound, miss_sound}
use Rattle.tally.proofs.Steps.{if_granted_has}

pub record Sound (state : State) : Type 0 where
  pub proper : Proper state.set_up
  pub hours : (hour : ℕ) → SoundHour state.set_up.parties (hour_at state hour)
  pub number : state.day.number ≤ 4000
  -- days of failure are closed days; a month's miss is what one hour's holdings are at most
  pub failures : (seller : ℕ) → state.year.failure_days seller + cond state.day.is_open 1 0 ≤ state.day.number
  pub misses : (seller month : ℕ) → state.year.misses seller month ≤ 10000
  -- an open day is in a month of the year
  pub month : state.day.is_open ≡ true → (1 ≤ state.year.month) × (state.year.month ≤ 12)

-- one hour changed
on_hour_lem : (state : State) (hour : ℕ) (change : Hour → Hour) → Sound state → SoundHour state.set_up.parties (change (hour_at state hour))
    → Sound (on_hour hour change state)
on_hour_lem state hour change sound new = record {
  proper = sound.proper;
  hours = replaced_has (λ h x. SoundHour state.set_up.parties x) state.day.hours hour (change (hour_at state hour)) new sound.hours;
  number = sound.number;
  failures = sound.failures;
  misses = sound.misses;
  month = sound.month;
}

opens : (is_open : Bool) (failures old new : ℕ) → old + 1 ≤ new → failures + cond is_open 1 0 ≤ old → failures + 1 ≤ new
opens true failures old new l h = omega arith
opens false failures old new l h = omega arith

closes : (is_open is_failure : Bool) (failures number : ℕ) → is_open ≡ true → failures + cond is_open 1 0 ≤ number
    → failures + cond is_failure 1 0 + 0 ≤ number
closes true true failures number e h = omega arith
closes true false failures number e h = omega arith
closes false is_failure failures number e h = absurd (false≢true e)

voids : (is_open : Bool) (failures number : ℕ) → failures + cond is_open 1 0 ≤ number → failures + 0 ≤ number
voids true failures number h = omega arith
voids false failures number h = h

today_size : (is_today : Bool) (old new : ℕ) → old ≤ 10000 → new ≤ 10000 → max old (cond is_today new 0) ≤ 10000
today_size true old new h k = omega arith
today_size false old new h k = omega arith

-- what a seller misses in an hour
pub missed_at_size : (state : State) → ((hour : ℕ) → SoundHour state.set_up.parties (hour_at state hour)) → (seller hour : ℕ)
    → missed_at state seller hour ≤ 10000
unfolding missed_at
missed_at_size state sound seller hour = misses_size state.set_up.parties (hour_at state hour) (sound hour) seller state.set_up.parties

-- a month's, today counted
pub month_miss_size : (state : State) → Sound state → (seller month : ℕ) → month_miss state seller month ≤ 10000
month_miss_size state sound seller month =
    today_size (eqb month state.year.month) _ _ (sound.misses seller month)
    (greatest_bound (missed_at state seller) 10000 hours_of_day (λ hour _ _. missed_at_size state sound.hours seller hour))

done_sound : (state : State) (event : Event) → Sound state → Lawfully event → answer state event ≡ granted → Sound (done state event)
done_sound state (open_day day kind month) sound lawful ok =
    let found = open_found state day kind month ok in
    record {
      proper = sound.proper;
      hours = λ h. blank_sound state.set_up.parties;
      number = found.last;
      failures = λ s. opens state.day.is_open _ state.day.number (nat_abs day) found.later (sound.failures s);
      misses = sound.misses;
      month = λ _. (omega (arith, found.in_year), found.in_year.1);
    }
done_sound state (enter_result hour party mw) sound lawful ok =
    let found = result_found state hour party mw ok in
    on_hour_lem state (nat_abs hour) (with_result (nat_abs party) mw) sound
    (result_sound _ _ (sound.hours (nat_abs hour)) found.unallotted (nat_abs party) mw found.known.1 found.size)
done_sound state (enter_offer hour party mw) sound lawful ok =
    let found = offer_found state hour party mw ok in
    on_hour_lem state (nat_abs hour) (with_offer (nat_abs party) (nat_abs mw)) sound
    (offer_sound _ _ (sound.hours (nat_abs hour)) found.unallotted (nat_abs party) (nat_abs mw) found.known.1 found.size)
done_sound state (enter_request hour party mw) sound lawful ok =
    let found = request_found state hour party mw ok in
    on_hour_lem state (nat_abs hour) (with_request (nat_abs party) (nat_abs mw)) sound
    (request_sound _ _ (sound.hours (nat_abs hour)) found.unallotted (nat_abs party) (nat_abs mw) found.known.1 found.size)
done_sound state (allot_hour hour most meaning) sound lawful ok =
    let found = allot_found state hour most meaning ok in
    on_hour_lem state (nat_abs hour) (allotted_by state.set_up.parties meaning) sound
    (allot_sound _ _ (sound.hours (nat_abs hour)) found.unallotted most (nat_abs hour) meaning lawful found.supplied)
done_sound state (deploy hour buyer mw most meaning) sound lawful ok =
    let found = deploy_found state hour buyer mw most meaning ok in
    on_hour_lem state (nat_abs hour) (deployed_by state.set_up.parties meaning (nat_abs buyer) (nat_abs mw)) sound
    (deploy_sound _ _ (sound.hours (nat_abs hour)) found.allotted (nat_abs buyer) (nat_abs mw) most meaning lawful
    found.known.0 found.known.1 found.within found.divided)
done_sound state (enter_miss hour seller buyer mwh cover) sound lawful ok =
    let found = miss_found state hour seller buyer mwh cover ok in
    on_hour_lem state (nat_abs hour) (with_miss (nat_abs seller) (nat_abs buyer) (nat_abs mwh) cover) sound
    (miss_sound _ _ (sound.hours (nat_abs hour)) found.allotted (nat_abs seller) (nat_abs buyer) (nat_abs mwh) cover found.within)
done_sound state (close_day tables most meanings heavy_page light_page) sound lawful ok = record {
  proper = sound.proper;
  hours = sound.hours;
  number = sound.number;
  failures = λ s. closes state.day.is_open (is_failure_day state s) (state.year.failure_days s) state.day.number
      (close_found state tables most meanings heavy_page light_page ok).is_open (sound.failures s);
  misses = month_miss_size state sound;
  month = λ e. absurd (false≢true e);
}
done_sound state void_day sound lawful ok = record {
  proper = sound.proper;
  hours = sound.hours;
  number = sound.number;
  failures = λ s. voids state.day.is_open (state.year.failure_days s) state.day.number (sound.failures s);
  misses = sound.misses;
  month = λ e. absurd (false≢true e);
}
done_sound state start_year sound lawful ok = record {
  proper = sound.proper;
  hours = sound.hours;
  number = sound.number;
  failures = λ s. omega (arith, sound.failures s);
  misses = λ s m. omega arith;
  month = λ e. absurd (both_ways state.day.is_open (not-true _ (passed _ DayOpen ok)) e);
}

pub sound : (set_up : SetUp) (events : List Event) → Proper set_up → AllLawful events → Sound (tallied set_up events).state
sound set_up [] proper lawful = record {
  proper = proper;
  hours = λ h. blank_sound set_up.parties;
  number = omega arith;
  failures = λ s. omega arith;
  misses = λ s m. omega arith;
  month = λ e. absurd (false≢true e);
}
sound set_up (event ∷ events) proper (lawful, others) =
    let before = (tallied set_up events).state in
    let old = sound set_up events proper others in
    if_granted_has Sound (answer before event) (done before event) before (done_sound before event old lawful) old
