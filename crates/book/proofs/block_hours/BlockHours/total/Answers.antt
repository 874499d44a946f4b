use Rattle.std.proofs.Common.{◌≡◌, sym, ap, suc, ◌∙◌, arith}
use Rattle.std.proofs.lemmas.Int.{ints}
use Rattle.tally.specs.Numbered.{total_z}
use Rattle.tally.proofs.Numbering.{total_z_none}
use Rattle.book.specs.Records.{at}
use Rattle.book.proofs.Steps.{total_z_step}
use Rattle.book.proofs.block_hours.BlockHours.total.Goals as goal

pub loop-index-init : goal.loop-index-init
loop-index-init g c = record {
  sum = λ f h. sym (total_z_none _);
  size = omega (arith, ints);
}

pub loop-index-preserved : goal.loop-index-preserved
loop-index-preserved g c =
    let small = c.requires.small _ _ c.figure-total.ensures in
    record {
      sum = λ f h.
          let more =
          total_z_step _ c.loop-index.index _ _ (c.loop-index.invariant.sum f h)
          (rw c.at.ensures at (h _ _ c.figure-total.ensures)) in
          omega (arith, ints, more);
      size = omega (arith, ints);
    }

pub returns-clause-value : goal.returns-clause-value
returns-clause-value g c = λ f h.
    let e : c.loop-index.index ≡ c.args.self.now.count = omega arith in
    c.loop-index.invariant.sum f h ∙ ap (total_z (λ k. f (suc (at 0 c.args.self.now.places k)))) e
