use Rattle.std.proofs.Common.{◌≡◌, sym, ◌∙◌, rules, arith}
use Rattle.tally.specs.Charges.{missed_at}
use Rattle.tally.proofs.Numbering.{total_none}
use Rattle.book.proofs.HourFigures.{small_misses}
use Rattle.book.proofs.Steps.{total_step}
use Rattle.book.proofs.book.Book.missed_at.Goals as goal

pub loop-buyer-init : goal.loop-buyer-init
loop-buyer-init c = record { sum = sym (total_none _); small = omega arith }

pub loop-buyer-preserved : goal.loop-buyer-preserved
loop-buyer-preserved c =
    let here : c.from-all.result ≡ c.missed.result = search rules in
    record {
      sum = total_step _ c.loop-buyer.buyer _ _ c.loop-buyer.invariant.sum (here ∙ (rw c.at.ensures at c.missed.ensures));
      small = omega arith;
    }

pub returns-clause-value : goal.returns-clause-value
unfolding missed_at
returns-clause-value c = search rules

pub returns-clause-size : goal.returns-clause-size
unfolding missed_at
returns-clause-size c =
    let a = c.args in
    omega (arith, returns-clause-value c, small_misses a.self.now a.hour a.seller a.self.now.pool.parties)
