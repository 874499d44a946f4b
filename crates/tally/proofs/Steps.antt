-- What holds after a call, granted or denied, and that none changes the set-up. Assumes nothing.
use Rattle.std.proofs.Common.{◌≡◌, List, [], ◌∷◌, refl, ◌∙◌}
use Rattle.tariff.specs.Answers.{Answer, granted, denied, if_granted}
use Rattle.tally.specs.Events.{Event, open_day}
use Rattle.tally.specs.Denials.{answer}
use Rattle.tally.specs.States.{State, SetUp}
use Rattle.tally.specs.Tally.{done, step, tallied}

-- what holds of the new where the call is granted, and of the old, holds of what stands after it
pub if_granted_has : {A : Type 0} (P : A → Type 0) (a : Answer) (new old : A) → (a ≡ granted → P new) → P old → P (if_granted a new old)
if_granted_has P granted new old h o = h refl
if_granted_has P (denied number first second) new old h o = o

-- no call changes the set-up
pub done_set_up : (state : State) (event : Event) → (done state event).set_up ≡ state.set_up
done_set_up state (open_day day kind month) = refl
done_set_up state _ = refl

pub step_set_up : (state : State) (event : Event) → (step state event).set_up ≡ state.set_up
step_set_up state event =
    if_granted_has (λ (s : State). s.set_up ≡ state.set_up) (answer state event) (done state event) state
    (λ _. done_set_up state event) refl

pub tallied_set_up : (set_up : SetUp) (events : List Event) → (tallied set_up events).state.set_up ≡ set_up
tallied_set_up set_up [] = refl
tallied_set_up set_up (event ∷ events) = step_set_up (tallied set_up events).state event ∙ tallied_set_up set_up events
