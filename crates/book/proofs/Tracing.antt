-- What calls lead to is what the tally makes of them. Assumes nothing.
use Rattle.std.proofs.Common.{◌≡◌, ℕ, zero, suc, ◌≤◌, true, List, [], ◌∷◌, map, ◌+ℤ◌, ◌∙◌, ap, subst, arith, get_or}
use Rattle.std.proofs.lemmas.Bool.{false≢true}
use Rattle.std.proofs.lemmas.Int.{ints}
use Rattle.std.proofs.lemmas.List.Elements.{All-head, All-tail}
use Rattle.std.specs.List.{All}
use Rattle.tariff.specs.Answers.{Answer, granted, denied, if_granted}
use Rattle.tally.specs.Denials.{answer}
use Rattle.tally.specs.Events.{Event, open_day, enter_result, enter_offer, enter_request, allot_hour, deploy, enter_miss, close_day}
use Rattle.tally.specs.Events.{void_day, start_year, AllLawful}
use Rattle.tally.specs.Hours.{blank}
use Rattle.tally.specs.Pairs.{pair}
use Rattle.tally.specs.Statements.{Statement, due}
use Rattle.tally.specs.States.{State, SetUp, Proper, hour_at}
use Rattle.tally.specs.Tally.{Tally, step, stated, filed, kept_of_year}
use Rattle.tally.proofs.Steps.{tallied_set_up}
use Rattle.book.specs.Begun.{Begun}
use Rattle.book.specs.Books.{state_of, balance, pairs_at}
use Rattle.book.specs.Histories.{Made, tally_of, stated_by, statements_of, statements_of_year}
use Rattle.book.specs.Led.{Laid}
use Rattle.book.specs.Records.{by_seller, hour_of, held_of}
use Rattle.book.specs.Runs.{FilledBy, CallMade, Run, begun, called}
use Rattle.book.specs.declared.book.Book.{Book}
use Rattle.book.specs.declared.records.HourRecord.{HourRecord}
use Rattle.book.proofs.Alike.{Alike, none, more, alike_append}
use Rattle.book.proofs.Facts.{laid_of}
use Rattle.book.proofs.Leading.{due_append}

-- what a call left on its pages is what the tally states
alike_made : (state : State) (event : Event) (a : Answer) (pages : Statement) → FilledBy state event a pages
    → Alike (if_granted a (stated_by event pages) []) (if_granted a (stated state event) [])
alike_made state event (denied n f s) pages filled = none
alike_made state (close_day tables most meanings heavy_page light_page) granted pages filled = more filled none
alike_made state (open_day day kind month) granted pages filled = none
alike_made state (enter_result hour party mw) granted pages filled = none
alike_made state (enter_offer hour party mw) granted pages filled = none
alike_made state (enter_request hour party mw) granted pages filled = none
alike_made state (allot_hour hour most meaning) granted pages filled = none
alike_made state (deploy hour buyer mw most meaning) granted pages filled = none
alike_made state (enter_miss hour seller buyer mwh cover) granted pages filled = none
alike_made state void_day granted pages filled = none
alike_made state start_year granted pages filled = none

alike_kept : (event : Event) (a : Answer) {xs ys : List Statement} → Alike xs ys
    → Alike (if_granted a (kept_of_year event xs) xs) (if_granted a (kept_of_year event ys) ys)
alike_kept event (denied n f s) alike = alike
alike_kept start_year granted alike = none
alike_kept (open_day day kind month) granted alike = alike
alike_kept (enter_result hour party mw) granted alike = alike
alike_kept (enter_offer hour party mw) granted alike = alike
alike_kept (enter_request hour party mw) granted alike = alike
alike_kept (allot_hour hour most meaning) granted alike = alike
alike_kept (deploy hour buyer mw most meaning) granted alike = alike
alike_kept (enter_miss hour seller buyer mwh cover) granted alike = alike
alike_kept (close_day tables most meanings heavy_page light_page) granted alike = alike
alike_kept void_day granted alike = alike

-- what a run keeps
pub record Traced (set_up : SetUp) (history : List Made) (book : Book) : Type 0 where
  pub proper : Proper set_up
  pub lawful : AllLawful (map (λ call. call.event) history)
  pub state : state_of book ≡ (tally_of set_up history).state
  pub paid : (account : ℕ) → account ≤ set_up.parties
      → balance book account ≡ due set_up.parties (tally_of set_up history).statements account
  pub stated : Alike (statements_of history) (tally_of set_up history).statements
  pub of_year : Alike (statements_of_year history) (tally_of set_up history).of_year

-- the parties are those of the set-up
pub parties_traced : (set_up : SetUp) (history : List Made) (book : Book) → Traced set_up history book → book.pool.parties ≡ set_up.parties
parties_traced set_up history book traced =
    ap (λ (s : State). s.set_up.parties) traced.state
    ∙ ap (λ (s : SetUp). s.parties) (tallied_set_up set_up (map (λ call. call.event) history))

module _ (set_up : SetUp) (history : List Made) (book : Book) (call : Made) (traced : Traced set_up history book)
    (call_made : CallMade book call) where
  abbrev tally : Tally
  tally = tally_of set_up history

  pub answered : call.answered ≡ answer tally.state call.event
  answered = call_made.stepped.answers ∙ ap (λ s. answer s call.event) traced.state

  made : Alike (if_granted call.answered (stated_by call.event call.pages) []) (filed tally.state call.event)
  made =
      subst (λ x. Alike (if_granted call.answered (stated_by call.event call.pages) []) (if_granted x (stated tally.state call.event) []))
      answered
      (alike_made tally.state call.event call.answered call.pages
      (subst (λ s. FilledBy s call.event call.answered call.pages) traced.state call_made.filled))

  pub traced_next : Traced set_up (call ∷ history) call.left
  traced_next = record {
    proper = traced.proper;
    lawful = (call_made.stepped.lawful, traced.lawful);
    state = call_made.stepped.state ∙ ap (λ s. step s call.event) traced.state;
    paid = λ account l.
        let p = parties_traced set_up history book traced in
        let n = set_up.parties in
        let g : balance call.left account ≡ balance book account +ℤ due n (filed tally.state call.event) account =
        call_made.stepped.balances account (rw p l)
        ∙ ap (λ m. balance book account +ℤ due m (filed (state_of book) call.event) account) p
        ∙ ap (λ s. balance book account +ℤ due n (filed s call.event) account) traced.state in
        let o = traced.paid account l in
        let d = due_append n (filed tally.state call.event) tally.statements account in
        omega (arith, ints, g, o, d);
    stated = alike_append made traced.stated;
    of_year =
        alike_append made
        (subst (λ x. Alike (if_granted call.answered (kept_of_year call.event (statements_of_year history)) (statements_of_year history))
        (if_granted x (kept_of_year call.event tally.of_year) tally.of_year)) answered
        (alike_kept call.event call.answered traced.of_year));
  }

pub traced_begun : (set_up : SetUp) (book : Book) → Begun set_up book → Traced set_up [] book
traced_begun set_up book start = record {
  proper = start.proper;
  lawful = tt;
  state = start.state;
  paid = λ account l. start.balances account;
  stated = none;
  of_year = none;
}

pub run_traced : {set_up : SetUp} {start : Book} {history : List Made} {book : Book} → Run set_up start history book
    → Traced set_up history book
run_traced {set_up} {start} (begun fresh) = traced_begun set_up start fresh
run_traced {set_up} (called history book call before step) = traced_next set_up history book call (run_traced before) step

laid_at : (records : List HourRecord) → All Laid records → (place : ℕ) → (get_or (map hour_of records) place blank).allotted ≡ true
    → (seller buyer : ℕ)
    → by_seller 0 (get_or (map (λ record_. (held_of record_).pairs) records) place []) seller buyer
    ≡ pair (get_or (map hour_of records) place blank) seller buyer
laid_at [] laid place is seller buyer = absurd (false≢true is)
laid_at (r ∷ rs) laid zero is seller buyer = All-head Laid r rs laid is seller buyer
laid_at (r ∷ rs) laid (suc place) is seller buyer = laid_at rs (All-tail Laid r rs laid) place is seller buyer

-- the book's pairs of an allotted hour are the tally's
pub pairs_laid : (book : Book) (hour : ℕ) → (hour_at (state_of book) hour).allotted ≡ true → (seller buyer : ℕ)
    → pairs_at book hour seller buyer ≡ pair (hour_at (state_of book) hour) seller buyer
pairs_laid book zero is seller buyer = absurd (false≢true is)
pairs_laid book (suc place) is seller buyer = laid_at book.day.hours (laid_of book) place is seller buyer
