use Rattle.std.proofs.Common.{refl, ◌∙◌, to_z-of_z}
use Rattle.tally.specs.Denials.{no_day_is_open}
use Rattle.tally.specs.Events.{open_day}
use Rattle.book.specs.Books.{state_of}
use Rattle.book.specs.Records.{year_in}
use Rattle.book.proofs.Calls.{Granted, granted_led, granted_stepped}
use Rattle.book.proofs.Testing.{granted_then}
use Rattle.book.proofs.book.Book.open_day.Goals as goal
use Rattle.book.proofs.book.Book.open_day.Goals.{After-open}

call : (c : goal.After-open) → Granted c.args.self.now c.«open».new.self (record (c.args.self.now.year) { month = c.in_ok-month.month })
    (open_day c.args.day c.args.kind c.args.month)
call c =
    let b = c.args.self.now in
    let new = c.«open».ensures in
    let number = simp (to_z-of_z, c.ranges.day) at c.in_ok-number.ensures in
    let month = simp (to_z-of_z, c.ranges.month) at c.in_ok-month.ensures in
    record {
      lawful = tt;
      answers = month.0 ∙ granted_then _ _ number.0 ∙ granted_then (no_day_is_open (state_of b)) _ c.in_ok-require_shut.ensures;
      does = λ i. record {
        set_up = (state_of b).set_up;
        day = record { number = (new.number ∙ number.1) i; is_open = new.is_open i; kind = new.kind i; hours = new.hours i };
        year = record (year_in b.year) { month = month.1 i };
      };
      unstated = refl;
      laid = new.laid;
    }

pub invariant_of-self : goal.invariant_of-self
invariant_of-self c = record { led = granted_led _ _ _ _ (call c.before) }

pub returns : goal.returns
returns c = granted_stepped _ _ _ _ (call c.before.before) _
