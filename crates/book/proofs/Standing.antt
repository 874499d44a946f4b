-- The guarantee holds of every run. Assumes nothing.
use Rattle.std.proofs.Common.{◌≡◌, ℕ, ◌≤◌, true, List, ◌∷◌, map, ◌+ℤ◌, refl, sym, ◌∙◌, ap, ap₂, subst, arith}
use Rattle.std.proofs.Math.Path.{fun_ext}
use Rattle.tariff.specs.Answers.{Answer, granted, denied}
use Rattle.tally.specs.DayPrices.{needed_prices}
use Rattle.tally.specs.Denials.{answer}
use Rattle.tally.specs.Events.{Event, open_day, enter_result, enter_offer, enter_request, allot_hour, deploy, enter_miss, close_day}
use Rattle.tally.specs.Events.{void_day, start_year, Lawfully}
use Rattle.tally.specs.Pairs.{pair}
use Rattle.tally.specs.Statements.{Statement, due, statement_of}
use Rattle.tally.specs.States.{SetUp, hour_at}
use Rattle.tally.specs.Tally.{Tally}
use Rattle.tally.proofs.Accounts.{accounts_balance_always}
use Rattle.tally.proofs.Charging.{charges_within_ceiling_lem}
use Rattle.tally.proofs.Meeting.{pairs_meet_lem}
use Rattle.tally.proofs.Numbering.{total_z_same}
use Rattle.tally.proofs.Revenue.{revenue_reached_lem}
use Rattle.tally.proofs.SetUps.{few_parties}
use Rattle.tally.proofs.Steps.{tallied_set_up}
use Rattle.book.specs.Books.{balance, pairs_at}
use Rattle.book.specs.Guarantee.{BookHolds, ReachedBy, left_by, CallStands, AllCallsStand, Stands}
use Rattle.book.specs.Histories.{Made, tally_of}
use Rattle.book.specs.Runs.{FilledBy, CallMade, Run, begun, called}
use Rattle.book.specs.declared.book.Book.{Book}
use Rattle.book.proofs.Alike.{due_same, year_same, reached_same}
use Rattle.book.proofs.Tracing.{Traced, traced_next, run_traced, pairs_laid, answered}

module _ (set_up : SetUp) (history : List Made) (book : Book) (traced : Traced set_up history book) where
  abbrev tally : Tally
  tally = tally_of set_up history

  parties_are : tally.state.set_up.parties ≡ set_up.parties
  parties_are = ap (λ (s : SetUp). s.parties) (tallied_set_up set_up (map (λ call. call.event) history))

  few : set_up.parties ≤ 12
  few = few_parties set_up traced.proper

  pairs_are : (hour : ℕ) → (hour_at tally.state hour).allotted ≡ true → pairs_at book hour ≡ pair (hour_at tally.state hour)
  pairs_are hour is =
      fun_ext (λ seller. fun_ext (λ buyer. pairs_laid book hour (ap (λ s. (hour_at s hour).allotted) traced.state ∙ is) seller buyer))
      ∙ ap (λ s. pair (hour_at s hour)) traced.state

  pub holds : BookHolds tally history book
  holds =
      let n = tally.state.set_up.parties in
      let paid : (account : ℕ) → account ≤ n → balance book account ≡ due n tally.statements account =
      λ account l. traced.paid account (rw (sym parties_are) l) ∙ ap (λ k. due k tally.statements account) (sym parties_are) in
      let within = charges_within_ceiling_lem set_up (map (λ call. call.event) history) traced.proper traced.lawful in
      record {
        state = traced.state;
        laid = pairs_are;
        met = pairs_meet_lem set_up (map (λ call. call.event) history) traced.proper traced.lawful;
        zero =
            ap₂ ◌+ℤ◌ (paid 0 (omega arith)) (total_z_same _ _ n (λ k l m. paid k m))
            ∙ accounts_balance_always set_up (map (λ call. call.event) history) traced.proper traced.lawful;
        paid = λ account l. paid account l ∙ sym (due_same n (rw parties_are few) traced.stated account l);
        charged = λ seller (l, m). year_same n (rw parties_are few) traced.of_year seller l m ∙ (within seller).counted;
        capped = λ seller. (within seller).within;
      }

-- what a close left on its pages reaches the revenue
reached : (set_up : SetUp) (history : List Made) (book : Book) (traced : Traced set_up history book) (event : Event) (a : Answer)
    (pages : Statement)
    → Lawfully event → a ≡ answer (tally_of set_up history).state event → FilledBy (tally_of set_up history).state event a pages
    → ReachedBy (tally_of set_up history).state event a pages
reached set_up history book traced (close_day tables most meanings heavy_page light_page) granted pages lawful is filled =
    let state = (tally_of set_up history).state in
    let prices = needed_prices state tables in
    λ block seller party.
    reached_same state prices pages (statement_of state prices meanings)
    (rw (parties_are set_up history book traced) (few set_up history book traced)) filled block seller party
    (revenue_reached_lem set_up (map (λ call. call.event) history) traced.proper traced.lawful
    tables most meanings heavy_page light_page lawful (sym is) block seller party)
reached set_up history book traced (close_day tables most meanings heavy_page light_page) (denied n f s) pages lawful is filled = tt
reached set_up history book traced (open_day day kind month) a pages lawful is filled = tt
reached set_up history book traced (enter_result hour party mw) a pages lawful is filled = tt
reached set_up history book traced (enter_offer hour party mw) a pages lawful is filled = tt
reached set_up history book traced (enter_request hour party mw) a pages lawful is filled = tt
reached set_up history book traced (allot_hour hour most meaning) a pages lawful is filled = tt
reached set_up history book traced (deploy hour buyer mw most meaning) a pages lawful is filled = tt
reached set_up history book traced (enter_miss hour seller buyer mwh cover) a pages lawful is filled = tt
reached set_up history book traced void_day a pages lawful is filled = tt
reached set_up history book traced start_year a pages lawful is filled = tt

pub call_stands : (set_up : SetUp) (history : List Made) (book : Book) (call : Made) → Traced set_up history book → CallMade book call
    → CallStands set_up book history call
call_stands set_up history book call traced step =
    let a = answered set_up history book call traced step in
    let filled = subst (λ s. FilledBy s call.event call.answered call.pages) traced.state step.filled in
    record {
      lawful = step.stepped.lawful;
      answered = a;
      unchanged = step.stepped.unchanged;
      filled = filled;
      reached = reached set_up history book traced call.event call.answered call.pages step.stepped.lawful a filled;
      holds = holds set_up (call ∷ history) call.left (traced_next set_up history book call traced step);
    }

left_is : {set_up : SetUp} {start : Book} {history : List Made} {book : Book} → Run set_up start history book → book ≡ left_by start history
left_is (begun fresh) = refl
left_is (called history book call before step) = refl

all_calls_stand : {set_up : SetUp} {start : Book} {history : List Made} {book : Book} → Run set_up start history book
    → AllCallsStand set_up start history
all_calls_stand (begun fresh) = tt
all_calls_stand {set_up} {start} (called history book call before step) = (
  subst (λ b. CallStands set_up b history call) (left_is before) (call_stands set_up history book call (run_traced before) step),
  all_calls_stand before,
)

-- whatever calls led to a book
pub run_stands : (set_up : SetUp) (start : Book) (history : List Made) (book : Book) → Run set_up start history book
    → Stands set_up start history book
run_stands set_up start history book run = record { now = holds set_up history book (run_traced run); each = all_calls_stand run }
