-- An allotted hour of an open day keeps what it was allotted by. Assumes nothing.
use Rattle.std.proofs.Common.{◌≡◌, ℕ, true, false, nat_abs, refl, ◌∙◌}
use Rattle.std.proofs.lemmas.Bool.{both_ways}
use Rattle.tariff.specs.Answers.{granted}
use Rattle.tally.specs.Allotment.{allotted_by}
use Rattle.tally.specs.Denials.{answer}
use Rattle.tally.specs.Events.{Event, open_day, enter_result, enter_offer, enter_request, allot_hour, deploy, enter_miss}
use Rattle.tally.specs.Hours.{Hour, with_result, with_offer, with_request, with_miss}
use Rattle.tally.specs.PairLaws.{Standing, AllottedHoursStand}
use Rattle.tally.specs.Pairs.{deployed_by}
use Rattle.tally.specs.States.{State, on_hour, hour_at, hour_named}
use Rattle.tally.specs.Tally.{done, tallied}
use Rattle.tally.proofs.Findings.{open_found, result_found, offer_found, request_found, allot_found}
use Rattle.tally.proofs.SoundHours.{replaced_has}
use Rattle.tally.proofs.Steps.{if_granted_has}

same : (hour : Hour) → Standing hour hour
same hour = record { results = λ _. refl; offers = λ _. refl; requests = λ _. refl; allotted = λ is. is; holdings = λ _. refl }

-- an hour that was not allotted before a call, nor is after it
unallotted : (old new : Hour) → old.allotted ≡ false → new.allotted ≡ old.allotted → Standing old new
unallotted old new isnt e = record {
  results = λ is. absurd (both_ways new.allotted (e ∙ isnt) is);
  offers = λ is. absurd (both_ways new.allotted (e ∙ isnt) is);
  requests = λ is. absurd (both_ways new.allotted (e ∙ isnt) is);
  allotted = λ is. absurd (both_ways old.allotted isnt is);
  holdings = λ is. absurd (both_ways old.allotted isnt is);
}

-- one hour changed, in which its entries stand
on_hour_lem : (state : State) (changed : ℕ) (change : Hour → Hour) → Standing (hour_at state changed) (change (hour_at state changed))
    → (hour : ℕ) → Standing (hour_at state hour) (hour_at (on_hour changed change state) hour)
on_hour_lem state changed change stands =
    replaced_has (λ hour. Standing (hour_at state hour)) state.day.hours changed (change (hour_at state changed)) stands
    (λ hour. same (hour_at state hour))

done_stands : (state : State) (event : Event) → state.day.is_open ≡ true → answer state event ≡ granted
    → (h : ℕ) → Standing (hour_at state h) (hour_at (done state event) h)
done_stands state (open_day day kind month) open? ok h =
    absurd (both_ways state.day.is_open (open_found state day kind month ok).shut open?)
done_stands state (enter_result hour party mw) open? ok h =
    on_hour_lem state (nat_abs hour) (with_result (nat_abs party) mw)
    (unallotted _ _ (result_found state hour party mw ok).unallotted refl) h
done_stands state (enter_offer hour party mw) open? ok h =
    on_hour_lem state (nat_abs hour) (with_offer (nat_abs party) (nat_abs mw))
    (unallotted _ _ (offer_found state hour party mw ok).unallotted refl) h
done_stands state (enter_request hour party mw) open? ok h =
    on_hour_lem state (nat_abs hour) (with_request (nat_abs party) (nat_abs mw))
    (unallotted _ _ (request_found state hour party mw ok).unallotted refl) h
done_stands state (allot_hour hour most meaning) open? ok h =
    on_hour_lem state (nat_abs hour) (allotted_by state.set_up.parties meaning) (record {
      results = λ _. refl;
      offers = λ _. refl;
      requests = λ _. refl;
      allotted = λ _. refl;
      holdings = λ is. absurd (both_ways (hour_named state hour).allotted (allot_found state hour most meaning ok).unallotted is);
    }) h
done_stands state (deploy hour buyer mw most meaning) open? ok h =
    on_hour_lem state (nat_abs hour) (deployed_by state.set_up.parties meaning (nat_abs buyer) (nat_abs mw))
    (record { results = λ _. refl; offers = λ _. refl; requests = λ _. refl; allotted = λ is. is; holdings = λ _. refl }) h
done_stands state (enter_miss hour seller buyer mwh cover) open? ok h =
    on_hour_lem state (nat_abs hour) (with_miss (nat_abs seller) (nat_abs buyer) (nat_abs mwh) cover)
    (record { results = λ _. refl; offers = λ _. refl; requests = λ _. refl; allotted = λ is. is; holdings = λ _. refl }) h
done_stands state _ open? ok h = same (hour_at state h)

pub allotted_hours_stand_lem : AllottedHoursStand
allotted_hours_stand_lem set_up events proper lawful event hour open? =
    let state = (tallied set_up events).state in
    if_granted_has (λ (s : State). Standing (hour_at state hour) (hour_at s hour)) (answer state event) (done state event) state
    (λ ok. done_stands state event open? ok hour) (same (hour_at state hour))
