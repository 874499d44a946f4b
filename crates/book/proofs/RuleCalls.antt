-- What a call comes to that asks a rule for an entry of an hour. Assumes nothing.
use Rattle.std.proofs.Common.{◌≡◌, ℕ, ℤ, nat_abs, sym, ◌∙◌, ap, subst}
use Rattle.tariff.specs.Answers.{Answer, granted, ◌then◌}
use Rattle.tariff.specs.Division.{Division, Moves}
use Rattle.tally.specs.Allotment.{supply_answer}
use Rattle.tally.specs.Denials.{answer, day_is_open, is_allotted, is_figure_at, is_hour_at, is_party_at, is_unallotted, is_within_served}
use Rattle.tally.specs.Events.{allot_hour, deploy}
use Rattle.tally.specs.Hours.{Hour}
use Rattle.tally.specs.States.{State, hour_at, hour_named, on_hour}
use Rattle.book.specs.HourEntries.{Admitted, PartsMoved, asked_answer, parts_by, written}
use Rattle.book.specs.declared.hours.HourEntry.{HourEntry}
use Rattle.book.specs.declared.hours.HourEntry.TheVariants.{Allot, Deploy}
use Rattle.book.proofs.Testing.{granted_then, then_assoc}

module _ (state : State) where
  -- the tests before a rule is asked
  abbrev pub allot_tests : ℤ → Answer
  allot_tests hour =
      day_is_open state then is_hour_at state 1 hour then is_unallotted state hour
      then supply_answer state.set_up.parties (hour_named state hour) (nat_abs hour)

  abbrev pub deploy_tests : (hour buyer mw : ℤ) → Answer
  deploy_tests hour buyer mw =
      day_is_open state then is_hour_at state 1 hour then is_party_at state 2 buyer then is_figure_at state 3 mw
      then is_allotted state hour then is_within_served state hour buyer mw

  -- and after them the rule's own answer
  module _ (most : ℕ) (rule : Division) where
    pub allot_asks : (hour : ℤ)
        → (allot_tests hour then asked_answer state.set_up.parties most Allot (hour_named state hour))
        ≡ answer state (allot_hour hour most rule)
    allot_asks hour = simp then_assoc

    pub deploy_asks : (hour buyer mw : ℤ)
        → (deploy_tests hour buyer mw
        then asked_answer state.set_up.parties most (Deploy (nat_abs buyer) (nat_abs mw)) (hour_named state hour))
        ≡ answer state (deploy hour buyer mw most rule)
    deploy_asks hour buyer mw = simp then_assoc

  -- an entry that its hour admits, and the same as it was given
  module _ (hour : ℤ) (entry : HourEntry) (found : ℕ × HourEntry) (admitted : Admitted state hour entry found)
      (n : ℕ) (read : Hour) (is_n : n ≡ state.set_up.parties) (is_read : read ≡ hour_at state found.0) where
    as_given : (P : ℕ → HourEntry → Hour → Type 0) → P n found.1 read → P state.set_up.parties entry (hour_named state hour)
    as_given P p =
        let q = subst (λ k. P k found.1 read) is_n p in
        let r = subst (P state.set_up.parties found.1) (is_read ∙ ap (hour_at state) admitted.hour_is) q in
        subst (λ e. P state.set_up.parties e (hour_named state hour)) admitted.entry_is r

    pub asked_as : (tests a : Answer) (most : ℕ) → granted ≡ tests → a ≡ asked_answer n most found.1 read
        → a ≡ (tests then asked_answer state.set_up.parties most entry (hour_named state hour))
    asked_as tests a most passed e =
        as_given (λ n entry hour. a ≡ asked_answer n most entry hour) e ∙ granted_then tests _ passed

    pub written_as : (rule : Division) (parts : ℕ → ℕ) → parts ≡ parts_by n rule found.1 read
        → on_hour (nat_abs hour) (written entry (parts_by state.set_up.parties rule entry (hour_named state hour))) state
        ≡ on_hour (nat_abs hour) (written entry parts) state
    written_as rule parts e =
        ap (λ parts. on_hour (nat_abs hour) (written entry parts) state)
        (sym (as_given (λ n entry hour. parts ≡ parts_by n rule entry hour) e))

    pub moved_as : (moves : Moves) (a : Answer) (before after : Division) → PartsMoved moves a n found.1 read before after
        → PartsMoved moves a state.set_up.parties entry (hour_named state hour) before after
    moved_as moves a before after = as_given (λ n entry hour. PartsMoved moves a n entry hour before after)
