-- Nothing that is due passes 4 × 10^18 cents: at most 4000 days are closed, each by at most 10^15. Assumes nothing.
use Rattle.std.proofs.Common.{◌≡◌, ℕ, ◌+◌, ◌*◌, ◌≤◌, Bool, true, false, cond, List, [], ◌∷◌, ◌++◌, ℤ, ◌+ℤ◌, nat_abs, refl, arith}
use Rattle.std.proofs.lemmas.Int.{ints}
use Rattle.std.proofs.lemmas.Bool.{false≢true, true≢false}
use Rattle.tariff.specs.Answers.{Answer, granted, denied, if_granted}
use Rattle.tally.specs.DayPrices.{needed_prices}
use Rattle.tally.specs.Events.{Event, open_day, close_day, void_day}
use Rattle.tally.specs.Events.{Lawfully, AllLawful}
use Rattle.tally.specs.SizeLaws.{DuesFit}
use Rattle.tally.specs.Denials.{answer}
use Rattle.tally.specs.States.{State, SetUp, Proper}
use Rattle.tally.specs.Statements.{Statement, statement_of, due, net}
use Rattle.tally.specs.Tally.{done, stated, tallied}
use Rattle.tally.proofs.Findings.{open_found, close_found}
use Rattle.tally.proofs.NetSizes.{net_size}
use Rattle.tally.proofs.PaymentSizes.{statement_sized}
use Rattle.tally.proofs.SetUps.{few_parties}
use Rattle.tally.proofs.Sound.{Sound, sound}

-- every day number has room for one close, and that of an open day is still to be used
abbrev Room : State → List Statement → Type 0
Room state statements =
    (account : ℕ) → account ≤ state.set_up.parties
    → nat_abs (due state.set_up.parties statements account) + cond state.day.is_open 1000000000000000 0
    ≤ state.day.number * 1000000000000000

-- a day opened, closed and voided
opens : (is_open : Bool) (owed old new : ℕ) → is_open ≡ false → old + 1 ≤ new
    → owed + cond is_open 1000000000000000 0 ≤ old * 1000000000000000 → owed + 1000000000000000 ≤ new * 1000000000000000
opens true owed old new e l h = absurd (true≢false e)
opens false owed old new e l h = omega arith

closes : (is_open : Bool) (more owed : ℤ) (all : ℕ) → is_open ≡ true → nat_abs more ≤ 1000000000000000
    → nat_abs owed + cond is_open 1000000000000000 0 ≤ all → nat_abs (more +ℤ owed) + 0 ≤ all
closes true more owed all e l h = omega (arith, ints)
closes false more owed all e l h = absurd (false≢true e)

voids : (is_open : Bool) (owed all : ℕ) → owed + cond is_open 1000000000000000 0 ≤ all → owed + 0 ≤ all
voids true owed all h = omega arith
voids false owed all h = h

four_thousand : (is_open : Bool) (owed number : ℕ) → owed + cond is_open 1000000000000000 0 ≤ number * 1000000000000000 → number ≤ 4000
    → owed ≤ 4000000000000000000
four_thousand is_open owed number h l = omega arith

done_room : (state : State) (event : Event) (statements : List Statement) → Sound state → Lawfully event → answer state event ≡ granted
    → Room state statements → Room (done state event) (stated state event ++ statements)
done_room state (open_day day kind month) statements s lawful ok room =
    let found = open_found state day kind month ok in
    λ account l. opens state.day.is_open _ state.day.number (nat_abs day) found.shut found.later (room account l)
done_room state (close_day tables most meanings heavy_page light_page) statements s lawful ok room =
    let statement = statement_of state (needed_prices state tables) meanings in
    λ account l. closes state.day.is_open (net state.set_up.parties statement account) (due state.set_up.parties statements account) _
    (close_found state tables most meanings heavy_page light_page ok).is_open
    (net_size state (few_parties state.set_up s.proper) statement
    (statement_sized state s tables most meanings heavy_page light_page lawful ok) account l)
    (room account l)
done_room state void_day statements s lawful ok room = λ account l. voids state.day.is_open _ _ (room account l)
done_room state _ statements s lawful ok room = room

-- a denied call leaves all as it was
told_room : (a : Answer) (new old : State) (made before : List Statement) → (a ≡ granted → Room new (made ++ before)) → Room old before
    → Room (if_granted a new old) (if_granted a made [] ++ before)
told_room granted new old made before n o = n refl
told_room (denied number first second) new old made before n o = o

room_always : (set_up : SetUp) (events : List Event) → Proper set_up → AllLawful events
    → Room (tallied set_up events).state (tallied set_up events).statements
room_always set_up [] proper lawful = λ account l. omega arith
room_always set_up (event ∷ events) proper (lawful, others) =
    let tally = tallied set_up events in
    let room = room_always set_up events proper others in
    told_room (answer tally.state event) (done tally.state event) tally.state (stated tally.state event) tally.statements
    (λ ok. done_room tally.state event tally.statements (sound set_up events proper others) lawful ok room) room

pub dues_fit_lem : DuesFit
dues_fit_lem set_up events proper lawful account l =
    let a = room_always set_up events proper lawful account l in
    let b = (sound set_up events proper lawful).number in
    four_thousand (tallied set_up events).state.day.is_open _ _ a b
