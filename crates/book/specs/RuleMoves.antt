-- How each call moves the rule that it is given. Assumes nothing.
use Rattle.std.specs.Prelude.{◌≡◌, ◌≢◌, ℕ, zero, suc, Bool, true, false, ◌⊎◌, List, unsigned_abs}
use Rattle.tariff.specs.Answers.{Answer, granted}
use Rattle.tariff.specs.Division.{Division, Moves, Moved}
use Rattle.tally.specs.Allotment.{requested, allot_total, allot_claims}
use Rattle.tally.specs.DayPrices.{needed_prices}
use Rattle.tally.specs.Events.{Event, allot_hour, deploy, close_day}
use Rattle.tally.specs.Hours.{Hour}
use Rattle.tally.specs.Pairs.{pairs_of}
use Rattle.tally.specs.States.{State, hour_named}
use Rattle.tally.specs.Turns.{Turns}
use Rattle.book.specs.declared.entry.Entry.{Entry}
use Rattle.book.specs.declared.entry.Entry.TheVariants.{Allot, Deploy, Close}

-- where anything is requested, the rule is asked to divide a total among claims; else its meaning stays
abbrev pub MovedFor : ℕ → Moves → Answer → Division → ℕ → List ℕ → Division → Type 0
MovedFor zero moves answered before total claims after = after ≡ before
MovedFor (suc mw) moves answered before total claims after = Moved moves answered before total claims after

-- what an allot hands to the rule
abbrev pub AllotMoved : Moves → Answer → ℕ → Hour → (before after : Division) → Type 0
AllotMoved moves answered parties hour before after =
    MovedFor (requested parties hour) moves answered before (allot_total parties hour) (allot_claims parties hour) after

-- From what the rule meant before a call to what it means after it, by the rule's own moves: an allot and a deployment
-- divide once, an accepted close at its turns, and the other calls do not consult it.
abbrev pub MovedBy : Moves → State → Event → Answer → (before after : Division) → Type 0
MovedBy moves state (allot_hour hour most meaning) answered before after =
    AllotMoved moves answered state.set_up.parties (hour_named state hour) before after
MovedBy moves state (deploy hour buyer mw most meaning) answered before after =
    Moved moves answered before (unsigned_abs mw)
    (pairs_of state.set_up.parties (hour_named state hour) (unsigned_abs buyer)) after
MovedBy moves state (close_day tables most meanings heavy_page light_page) granted before after =
    Turns moves state (needed_prices state tables) meanings before after
MovedBy moves state _ answered before after = after ≡ before

-- the entries for which a rule is asked
abbrev pub asks_rule : Entry → Bool
asks_rule (Allot hour) = true
asks_rule (Deploy hour buyer mw) = true
asks_rule Close = true
asks_rule _ = false

-- a call leaves the rule itself as it was, unless its entry asks the rule and is granted
abbrev pub SameRule : {R : Type 0} → Entry → Answer → (before after : R) → Type 0
SameRule entry answered before after = (answered ≢ granted) ⊎ (asks_rule entry ≡ false) → after ≡ before
