use Rattle.std.proofs.Common.{refl, sym, ◌∙◌, subst, to_z-of_z}
use Rattle.std.proofs.lemmas.Result.{err_from_is_err_and}
use Rattle.tally.specs.Events.{allot_hour}
use Rattle.book.specs.Books.{state_of}
use Rattle.book.specs.HourEntries.{SmallHour}
use Rattle.book.specs.Records.{at}
use Rattle.book.specs.declared.hours.HourEntry.TheVariants.{Allot}
use Rattle.book.proofs.Calls.{Granted, entry_granted, granted_led, granted_stepped, refused_stepped}
use Rattle.book.proofs.RuleCalls.{allot_tests, allot_asks, asked_as, written_as, moved_as}
use Rattle.book.proofs.Supplies.{small_of}
use Rattle.book.proofs.Testing.{denied_then}
use Rattle.book.proofs.book.Book.allot.Given.{Over}
use Rattle.book.proofs.book.Book.allot.Goals as goal

pub parts-requires-clause-small : goal.parts-requires-clause-small
parts-requires-clause-small g c = subst SmallHour (sym c.hour_record.ensures.value) (small_of c.args.self.now c.in_ok-hour.hour)

pub returns-in_err-hour-clause-stepped : goal.returns-in_err-hour-clause-stepped
returns-in_err-hour-clause-stepped g c =
    let p = err_from_is_err_and c.from_residual.result c.from_residual.ensures.1 in
    let state = state_of c.args.self.now in
    let e = c.in_err-hour.field-0.0 in
    rw (p.1, p.2)
    (refused_stepped c.args.self.now (allot_hour c.args.hour g.R.DivisionRule.LIMIT (g.R.DivisionRule.meaning c.args.rule.now)) e (g.met.R.DivisionRule.lawful c.args.rule.now)
    (denied_then e (allot_tests state c.args.hour) _ (simp (to_z-of_z, c.ranges.hour) at c.in_err-hour.ensures.answer)
    ∙ allot_asks state _ (g.R.DivisionRule.meaning c.args.rule.now) c.args.hour))

pub returns-in_err-holdings-clause-stepped : goal.returns-in_err-holdings-clause-stepped
returns-in_err-holdings-clause-stepped g c =
    let p = err_from_is_err_and c.from_residual-in_err-holdings.result c.from_residual-in_err-holdings.ensures.1 in
    let state = state_of c.args.self.now in
    let admitted = simp (to_z-of_z, c.ranges.hour) at c.in_ok-hour.ensures.value in
    let passed = simp (to_z-of_z, c.ranges.hour) at c.in_ok-hour.ensures.answer in
    rw (p.1, p.2)
    (refused_stepped c.args.self.now (allot_hour c.args.hour g.R.DivisionRule.LIMIT (g.R.DivisionRule.meaning c.args.rule.now)) c.in_err-holdings.field-0.0 (g.met.R.DivisionRule.lawful c.args.rule.now)
    (asked_as state c.args.hour Allot _ admitted _ _ c.parties.ensures.value c.hour_record.ensures.value
    (allot_tests state c.args.hour) _ g.R.DivisionRule.LIMIT passed c.in_err-holdings.ensures.answer
    ∙ allot_asks state _ (g.R.DivisionRule.meaning c.args.rule.now) c.args.hour))

call : (g : Over) (c : goal.After-write g) → Granted c.args.self.now c.write.new.self c.args.self.now.year
    (allot_hour c.args.hour g.R.DivisionRule.LIMIT (g.R.DivisionRule.meaning c.args.rule.now))
call g c =
    let state = state_of c.args.self.now in
    let admitted = simp (to_z-of_z, c.ranges.hour) at c.in_ok-hour.ensures.value in
    let passed = simp (to_z-of_z, c.ranges.hour) at c.in_ok-hour.ensures.answer in
    entry_granted c.args.self.now c.write.new.self (allot_hour c.args.hour g.R.DivisionRule.LIMIT (g.R.DivisionRule.meaning c.args.rule.now)) c.args.hour _ _ _
    (g.met.R.DivisionRule.lawful c.args.rule.now)
    (asked_as state c.args.hour Allot _ admitted _ _ c.parties.ensures.value c.hour_record.ensures.value
    (allot_tests state c.args.hour) _ g.R.DivisionRule.LIMIT passed c.in_ok-holdings.ensures.answer
    ∙ allot_asks state _ (g.R.DivisionRule.meaning c.args.rule.now) c.args.hour)
    admitted c.write.ensures
    (written_as state c.args.hour Allot _ admitted _ _ c.parties.ensures.value c.hour_record.ensures.value
    (g.R.DivisionRule.meaning c.args.rule.now) (at 0 c.in_ok-holdings.holdings) c.in_ok-holdings.ensures.parts)
    refl

pub invariant_of-self : goal.invariant_of-self
invariant_of-self g c = record { led = granted_led _ _ _ _ (call g c) }

pub returns-clause-stepped : goal.returns-clause-stepped
returns-clause-stepped g c = granted_stepped _ _ _ _ (call g c.before) _

pub returns-clause-moved : goal.returns-clause-moved
returns-clause-moved g c =
    let admitted = simp (to_z-of_z, c.ranges.hour) at c.in_ok-hour.ensures.value in
    moved_as (state_of c.args.self.now) c.args.hour Allot _ admitted _ _ c.parties.ensures.value c.hour_record.ensures.value
    _ _ _ _ c.in_ok-holdings.ensures.moved
