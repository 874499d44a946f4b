use Rattle.std.proofs.Common.{◌≡◌, sym, ap₂, ◌∙◌, rules, arith}
use Rattle.tally.specs.Hours.{Hour}
use Rattle.tally.specs.Numbered.{total}
use Rattle.tally.specs.Pairs.{declined}
use Rattle.tally.proofs.Numbering.{total_none}
use Rattle.book.proofs.Steps.{total_step}
use Rattle.book.proofs.book.Book.declined_at.Goals as goal

pub loop-place-init : goal.loop-place-init
loop-place-init c = record { sum = sym (total_none _); small = omega arith }

pub loop-place-preserved : goal.loop-place-preserved
loop-place-preserved c =
    let here : c.from-total.result ≡ c.declined.result = search rules in
    record {
      sum = total_step _ c.loop-place.place _ _ c.loop-place.invariant.sum (here ∙ (rw c.at.ensures at c.declined.ensures));
      small = omega arith;
    }

pub returns-clause-value : goal.returns-clause-value
returns-clause-value c =
    let n : c.loop-place.place ≡ c.args.self.now.pool.parties = search rules in
    c.loop-place.invariant.sum
    ∙ ap₂ (λ (hour : Hour). total (declined hour c.args.seller)) c.hour_record-record.ensures.value n
