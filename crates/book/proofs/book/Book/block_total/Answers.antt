use Rattle.std.proofs.Common.{sym, ◌∙◌, arith}
use Rattle.std.proofs.lemmas.Int.{ints}
use Rattle.tally.proofs.Numbering.{total_z_none}
use Rattle.book.proofs.BlockLoops.{of_block, hour_inside, hour_outside, whole_block}
use Rattle.book.specs.Books.{state_of}
use Rattle.book.proofs.book.Book.block_total.Goals as goal
use Rattle.book.proofs.book.Book.block_total.Goals.{then-in_block, else-in_block}

pub loop-place-init : goal.loop-place-init
loop-place-init g c = record {
  sum = λ f h. sym (total_z_none (of_block (state_of c.args.self.now) c.args.block f));
  size = omega (arith, ints);
}

pub loop-place-preserved : goal.loop-place-preserved
loop-place-preserved g c = record {
  sum = λ f h.
      elim c.if-in_block.branch [
        | then-in_block w ↦
            let small = c.requires.small _ _ w.figure-total.ensures in
            let more =
            hour_inside (state_of c.args.self.now) c.args.block f c.loop-place.place _ _ _
            (rw c.at-hour.ensures at c.in_block.ensures) w.if-in_block.true
            (rw c.at-hour.ensures at (h _ _ w.figure-total.ensures)) (c.loop-place.invariant.sum f h) in
            omega (arith, ints)
        | else-in_block w ↦
            w.total-is
            ∙ hour_outside (state_of c.args.self.now) c.args.block f c.loop-place.place _ _
            (rw c.at-hour.ensures at c.in_block.ensures) w.if-in_block.false (c.loop-place.invariant.sum f h)
      ];
  size =
      elim c.if-in_block.branch [
        | then-in_block w ↦ let small = c.requires.small _ _ w.figure-total.ensures in omega (arith, ints)
        | else-in_block w ↦ omega (arith, ints)
      ];
}

pub returns-clause-value : goal.returns-clause-value
returns-clause-value g c = λ f h.
    whole_block (state_of c.args.self.now) c.args.block f c.loop-place.place _ (omega arith)
    (c.loop-place.invariant.sum f h)
