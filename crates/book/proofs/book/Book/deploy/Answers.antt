use Rattle.std.proofs.Common.{nat_abs, refl, sym, ◌∙◌, subst, to_z-of_z}
use Rattle.std.proofs.lemmas.Result.{err_from_is_err_and}
use Rattle.tally.specs.Events.{deploy}
use Rattle.book.specs.Books.{state_of}
use Rattle.book.specs.HourEntries.{SmallHour}
use Rattle.book.specs.Records.{at}
use Rattle.book.specs.declared.hours.HourEntry.TheVariants.{Deploy}
use Rattle.book.proofs.Calls.{Granted, entry_granted, granted_led, granted_stepped, refused_stepped}
use Rattle.book.proofs.RuleCalls.{deploy_tests, deploy_asks, asked_as, written_as}
use Rattle.book.proofs.Supplies.{small_of}
use Rattle.book.proofs.Testing.{denied_then}
use Rattle.book.proofs.book.Book.deploy.Given.{Over}
use Rattle.book.proofs.book.Book.deploy.Goals as goal

pub parts-requires-clause-small : goal.parts-requires-clause-small
parts-requires-clause-small g c = subst SmallHour (sym c.hour_record.ensures.value) (small_of c.args.self.now c.in_ok-hour.hour)

pub returns-in_err-hour-clause-stepped : goal.returns-in_err-hour-clause-stepped
returns-in_err-hour-clause-stepped g c =
    let p = err_from_is_err_and c.from_residual.result c.from_residual.ensures.1 in
    let state = state_of c.args.self.now in
    let e = c.in_err-hour.field-0.0 in
    rw (p.1, p.2)
    (refused_stepped c.args.self.now (deploy c.args.hour c.args.buyer c.args.mw g.R.DivisionRule.LIMIT (g.R.DivisionRule.meaning c.args.rule.now)) e (g.met.R.DivisionRule.lawful c.args.rule.now)
    (denied_then e (deploy_tests state c.args.hour c.args.buyer c.args.mw) _ (simp (to_z-of_z, c.ranges.hour, c.ranges.buyer, c.ranges.mw) at c.in_err-hour.ensures.answer)
    ∙ deploy_asks state _ (g.R.DivisionRule.meaning c.args.rule.now) c.args.hour c.args.buyer c.args.mw))

pub returns-in_err-shares-clause-stepped : goal.returns-in_err-shares-clause-stepped
returns-in_err-shares-clause-stepped g c =
    let p = err_from_is_err_and c.from_residual-in_err-shares.result c.from_residual-in_err-shares.ensures.1 in
    let state = state_of c.args.self.now in
    let admitted = simp (to_z-of_z, c.ranges.hour, c.ranges.buyer, c.ranges.mw) at c.in_ok-hour.ensures.value in
    let passed = simp (to_z-of_z, c.ranges.hour, c.ranges.buyer, c.ranges.mw) at c.in_ok-hour.ensures.answer in
    rw (p.1, p.2)
    (refused_stepped c.args.self.now (deploy c.args.hour c.args.buyer c.args.mw g.R.DivisionRule.LIMIT (g.R.DivisionRule.meaning c.args.rule.now)) c.in_err-shares.field-0.0 (g.met.R.DivisionRule.lawful c.args.rule.now)
    (asked_as state c.args.hour (Deploy (nat_abs c.args.buyer) (nat_abs c.args.mw)) _ admitted _ _ c.parties.ensures.value c.hour_record.ensures.value
    (deploy_tests state c.args.hour c.args.buyer c.args.mw) _ g.R.DivisionRule.LIMIT passed c.in_err-shares.ensures.answer
    ∙ deploy_asks state _ (g.R.DivisionRule.meaning c.args.rule.now) c.args.hour c.args.buyer c.args.mw))

call : (g : Over) (c : goal.After-write g) → Granted c.args.self.now c.write.new.self c.args.self.now.year
    (deploy c.args.hour c.args.buyer c.args.mw g.R.DivisionRule.LIMIT (g.R.DivisionRule.meaning c.args.rule.now))
call g c =
    let state = state_of c.args.self.now in
    let admitted = simp (to_z-of_z, c.ranges.hour, c.ranges.buyer, c.ranges.mw) at c.in_ok-hour.ensures.value in
    let passed = simp (to_z-of_z, c.ranges.hour, c.ranges.buyer, c.ranges.mw) at c.in_ok-hour.ensures.answer in
    entry_granted c.args.self.now c.write.new.self (deploy c.args.hour c.args.buyer c.args.mw g.R.DivisionRule.LIMIT (g.R.DivisionRule.meaning c.args.rule.now)) c.args.hour _ _ _
    (g.met.R.DivisionRule.lawful c.args.rule.now)
    (asked_as state c.args.hour (Deploy (nat_abs c.args.buyer) (nat_abs c.args.mw)) _ admitted _ _ c.parties.ensures.value c.hour_record.ensures.value
    (deploy_tests state c.args.hour c.args.buyer c.args.mw) _ g.R.DivisionRule.LIMIT passed c.in_ok-shares.ensures.answer
    ∙ deploy_asks state _ (g.R.DivisionRule.meaning c.args.rule.now) c.args.hour c.args.buyer c.args.mw)
    admitted c.write.ensures
    (written_as state c.args.hour (Deploy (nat_abs c.args.buyer) (nat_abs c.args.mw)) _ admitted _ _ c.parties.ensures.value c.hour_record.ensures.value
    (g.R.DivisionRule.meaning c.args.rule.now) (at 0 c.in_ok-shares.shares) c.in_ok-shares.ensures.parts)
    refl

pub invariant_of-self : goal.invariant_of-self
invariant_of-self g c = record { led = granted_led _ _ _ _ (call g c) }

pub returns-clause-stepped : goal.returns-clause-stepped
returns-clause-stepped g c = granted_stepped _ _ _ _ (call g c.before) _
