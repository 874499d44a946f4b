use Rattle.std.proofs.Common.{refl}
use Rattle.tally.specs.Events.{void_day}
use Rattle.book.proofs.Calls.{granted_led}
use Rattle.book.proofs.book.Book.void_day.Goals as goal

pub invariant_of-self : goal.invariant_of-self
invariant_of-self c =
    record {
      led = granted_led c.args.self.now _ _ void_day
          (record { lawful = tt; answers = c.in_ok-require_open.ensures; does = refl; unstated = refl; laid = λ laid. laid });
    }
