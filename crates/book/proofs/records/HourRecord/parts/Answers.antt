use Rattle.std.proofs.Common.{◌≡◌, ℕ, IfOk, ◌∙◌, ap, subst}
use Rattle.tariff.specs.Answers.{told}
use Rattle.tariff.specs.Division.{Moved, division_answer}
use Rattle.tally.specs.Numbered.{listed, numbered}
use Rattle.book.specs.Records.{at}
use Rattle.book.proofs.Deploying.{row_is}
use Rattle.book.proofs.records.HourRecord.parts.Goals as goal

pub holdings-requires-clause-small : goal.holdings-requires-clause-small
holdings-requires-clause-small g c = rw c.in-Unallotted-Allot.is-0 at c.requires.small

pub returns-in-Unallotted-Allot-clause-answer : goal.returns-in-Unallotted-Allot-clause-answer
returns-in-Unallotted-Allot-clause-answer g c = rw (c.in-Unallotted-Allot.is-0, c.in-Unallotted-Allot.is-1) c.holdings.ensures.answer

pub returns-in-Unallotted-Allot-clause-parts : goal.returns-in-Unallotted-Allot-clause-parts
returns-in-Unallotted-Allot-clause-parts g c = rw (c.in-Unallotted-Allot.is-0, c.in-Unallotted-Allot.is-1) c.holdings.ensures.value

pub returns-in-Unallotted-Allot-clause-moved : goal.returns-in-Unallotted-Allot-clause-moved
returns-in-Unallotted-Allot-clause-moved g c = rw (c.in-Unallotted-Allot.is-0, c.in-Unallotted-Allot.is-1) c.holdings.ensures.moved

pub returns-in-Allotted-Deploy-clause-answer : goal.returns-in-Allotted-Deploy-clause-answer
returns-in-Allotted-Deploy-clause-answer g c =
    let row = row_is _ _ _ c.in-Allotted-Deploy.is-0 c.requires.laid c.place.result in
    rw (c.in-Allotted-Deploy.is-0, c.in-Allotted-Deploy.is-1, ← c.place.ensures.value)
    (c.divide.ensures.answer
    ∙ ap (λ f. division_answer g.R.DivisionRule.LIMIT c.in-Allotted-Deploy.mw (listed f c.args.parties) c.args.parties) row)

pub returns-in-Allotted-Deploy-clause-parts : goal.returns-in-Allotted-Deploy-clause-parts
returns-in-Allotted-Deploy-clause-parts g c =
    let row = row_is _ _ _ c.in-Allotted-Deploy.is-0 c.requires.laid c.place.result in
    let rule = g.R.DivisionRule.meaning c.args.rule.now in
    let P : (ℕ → ℕ) → Type 0 = λ f.
    IfOk c.divide.result (λ parts. at 0 parts ≡ numbered (rule c.in-Allotted-Deploy.mw (listed f c.args.parties))) in
    rw (c.in-Allotted-Deploy.is-0, c.in-Allotted-Deploy.is-1, ← c.place.ensures.value) (subst P row c.divide.ensures.shares)

pub returns-in-Allotted-Deploy-clause-moved : goal.returns-in-Allotted-Deploy-clause-moved
returns-in-Allotted-Deploy-clause-moved g c =
    let row = row_is _ _ _ c.in-Allotted-Deploy.is-0 c.requires.laid c.place.result in
    let meaning = g.R.DivisionRule.meaning in
    let P : (ℕ → ℕ) → Type 0 = λ f.
    Moved g.R.DivisionRule.moves (told c.divide.result) (meaning c.args.rule.now) c.in-Allotted-Deploy.mw (listed f c.args.parties)
    (meaning c.divide.new.rule) in
    rw (c.in-Allotted-Deploy.is-0, c.in-Allotted-Deploy.is-1, ← c.place.ensures.value) (subst P row c.divide.ensures.moved)
