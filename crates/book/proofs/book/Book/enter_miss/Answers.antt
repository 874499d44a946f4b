use Rattle.std.proofs.Common.{refl, to_z-of_z}
use Rattle.std.proofs.lemmas.Result.{err_from_is_err_and}
use Rattle.tally.specs.Events.{enter_miss}
use Rattle.book.proofs.Calls.{Granted, entry_granted, granted_led, granted_stepped, refused_stepped}
use Rattle.book.proofs.book.Book.enter_miss.Goals as goal

pub returns-in_err-hour : goal.returns-in_err-hour
returns-in_err-hour c =
    let p = err_from_is_err_and c.from_residual.result c.from_residual.ensures.1 in
    rw (p.1, p.2)
    (refused_stepped c.args.self.now (enter_miss c.args.hour c.args.seller c.args.buyer c.args.mwh c.args.cover) c.in_err-hour.field-0.0 tt
    (simp (to_z-of_z, c.ranges.hour, c.ranges.seller, c.ranges.buyer, c.ranges.mwh) at c.in_err-hour.ensures.answer))

call : (c : goal.After-write) → Granted c.args.self.now c.write.new.self c.args.self.now.year (enter_miss c.args.hour c.args.seller c.args.buyer c.args.mwh c.args.cover)
call c =
    entry_granted c.args.self.now c.write.new.self (enter_miss c.args.hour c.args.seller c.args.buyer c.args.mwh c.args.cover) c.args.hour _ _ _ tt
    (simp (to_z-of_z, c.ranges.hour, c.ranges.seller, c.ranges.buyer, c.ranges.mwh) at c.in_ok-hour.ensures.answer)
    (simp (to_z-of_z, c.ranges.hour, c.ranges.seller, c.ranges.buyer, c.ranges.mwh) at c.in_ok-hour.ensures.value) c.write.ensures refl refl

pub invariant_of-self : goal.invariant_of-self
invariant_of-self c = record { led = granted_led _ _ _ _ (call c) }

pub returns : goal.returns
returns c = granted_stepped _ _ _ _ (call c.before) _
