use Rattle.std.proofs.Common.{rules, ℕ, ap₂}
use Rattle.tariff.specs.declared.charges.Cover.{Cover}
use Rattle.tariff.specs.declared.charges.Cover.TheVariants.{Covered}
use Rattle.tally.specs.Pairs.{pair}
use Rattle.book.specs.Records.{hour_of}
use Rattle.book.specs.declared.records.HourRecord.TheVariants.{Allotted}
use Rattle.book.proofs.Deploying.{written}
use Rattle.book.proofs.records.HourRecord.write.Goals as goal
use Rattle.book.proofs.records.HourRecord.write.Goals.{in-Unallotted-Result, in-Unallotted-Offer, in-Unallotted-Request, in-Allotted-Deploy, in-Allotted-Miss}

pub returns-in-Allot-clause-hour : goal.returns-in-Allot-clause-hour
returns-in-Allot-clause-hour c = rw c.in-Allot.is c.hold.ensures.hour

pub returns-clause-hour : goal.returns-clause-hour
returns-clause-hour c =
    elim c.match-self.branch [
      | in-Unallotted-Result w ↦ search rules
      | in-Unallotted-Offer w ↦ search rules
      | in-Unallotted-Request w ↦ search rules
      | in-Allotted-Deploy w ↦
          let arm = w.in-Allotted-Deploy in
          rw (w.self-is, arm.is-0, arm.is-1, ← w.place-place.ensures.value)
          (written arm.entered-0 arm.held w.place-place.result c.args.parts.now (search rules) (search rules))
      | in-Allotted-Miss w ↦
          let old = hour_of (Allotted w.in-Allotted-Miss.entered-0 w.in-Allotted-Miss.held) in
          let with = λ (missed : ℕ → ℕ → ℕ) (cover : ℕ → ℕ → Cover). record old { missed = missed; cover = cover } in
          rw (w.self-is, w.in-Allotted-Miss.is-0, w.in-Allotted-Miss.is-1)
          (ap₂ with (w.put.ensures 0) (w.put-in-Allotted-Miss.ensures Covered))
    ]

pub returns-clause-laid : goal.returns-clause-laid
unfolding pair
returns-clause-laid c =
    elim c.match-self.branch [
      | in-Unallotted-Result w ↦ rw w.self-is (λ laid isnt. absurd (cc))
      | in-Unallotted-Offer w ↦ rw w.self-is (λ laid isnt. absurd (cc))
      | in-Unallotted-Request w ↦ rw w.self-is (λ laid isnt. absurd (cc))
      | in-Allotted-Deploy w ↦ rw (w.self-is, w.in-Allotted-Deploy.is-0) (λ laid. laid)
      | in-Allotted-Miss w ↦ rw (w.self-is, w.in-Allotted-Miss.is-0) (λ laid. laid)
    ]
