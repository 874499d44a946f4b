use Rattle.std.proofs.Common.{refl, ap}
use Rattle.tally.specs.Events.{start_year}
use Rattle.tally.specs.States.{Year}
use Rattle.book.specs.Books.{state_of}
use Rattle.book.proofs.Calls.{Granted, granted_led, granted_stepped}
use Rattle.book.proofs.book.Book.start_year.Goals as goal

call : (c : goal.After-fresh-self) → Granted c.args.self.now c.args.self.now.day c.fresh-self.result start_year
call c = record {
  lawful = tt;
  answers = c.in_ok-require_shut.ensures;
  does = ap (λ (y : Year). record (state_of c.args.self.now) { year = y }) c.fresh-self.ensures;
  unstated = refl;
  laid = λ laid. laid;
}

pub invariant_of-self : goal.invariant_of-self
invariant_of-self c = record { led = granted_led _ _ _ _ (call c) }

pub returns : goal.returns
returns c = granted_stepped _ _ _ _ (call c.before) _
