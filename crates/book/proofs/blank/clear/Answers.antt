use Rattle.std.proofs.Common.{◌≡◌, ℕ, ◌+◌, ◌<◌, List, length, set, length-set, ◌∙◌, rules, arith}
use Rattle.std.proofs.lemmas.List.Elements.{All-set}
use Rattle.tally.specs.Hours.{blank}
use Rattle.book.specs.Led.{Laid}
use Rattle.book.specs.Records.{hour_of}
use Rattle.book.specs.declared.records.Entered.{Entered}
use Rattle.book.specs.declared.records.HourRecord.{HourRecord}
use Rattle.book.specs.declared.records.HourRecord.TheVariants.{Unallotted}
use Rattle.book.proofs.Blanks.{Cleared, all_blank}
use Rattle.book.proofs.RowWrites.{place_next}
use Rattle.book.proofs.blank.clear.Goals as goal
use Rattle.book.proofs.blank.clear.Goals.{in-Unallotted, in_default}

pub loop-place-init : goal.loop-place-init
loop-place-init c = record { long = search rules; cleared = λ none k l. absurd (omega arith); laid = λ laid. laid }

cleared_next : (before now : List HourRecord) (place : ℕ) (entered : Entered) → place < 24 → Cleared before now place
    → hour_of (Unallotted entered) ≡ blank → Laid (Unallotted entered)
    → Cleared before (set now place (Unallotted entered)) (place + 1)
cleared_next before now place entered few old hour laid =
    let l : place < length now = omega (arith, old.long) in
    record {
      long = length-set now place (Unallotted entered) ∙ old.long;
      cleared = λ none. place_next none now place _ (λ k (r : HourRecord). hour_of r ≡ blank) l hour (old.cleared none);
      laid = λ laid_before. All-set Laid now place _ laid (old.laid laid_before);
    }

pub loop-place-preserved : goal.loop-place-preserved
loop-place-preserved c =
    let next = cleared_next c.args.hours.now c.loop-place.hours c.loop-place.place in
    elim c.match-hours-place.branch [
      | in-Unallotted w ↦ rw w.hours-is (next _ c.loop-place-test.true c.loop-place.invariant w.blank.ensures.hour w.blank.ensures.laid)
      | in_default w ↦ rw w.hours-is
          (next _ c.loop-place-test.true c.loop-place.invariant w.blank-in_default.ensures.hour w.blank-in_default.ensures.laid)
    ]

pub returns-clause-blank : goal.returns-clause-blank
returns-clause-blank c = all_blank c.loop-place.hours c.loop-place.invariant.long (λ none k l. c.loop-place.invariant.cleared none k (omega arith))

pub returns-clause-laid : goal.returns-clause-laid
returns-clause-laid c = c.loop-place.invariant.laid
