use Rattle.std.proofs.Common.{◌≡◌, suc, sym, ◌∙◌, ap, cond, arith}
use Rattle.tally.specs.DayPrices.{held_at}
use Rattle.tally.proofs.Numbering.{total_none}
use Rattle.book.specs.Books.{state_of}
use Rattle.book.proofs.Held.{held_in_hour, held_in_none, held_in_more}
use Rattle.book.proofs.book.Book.is_held_in.Goals as goal
use Rattle.book.proofs.book.Book.is_held_in.Goals.{else-in_block-via-then-in_block+else-held_at-gt0, else-in_block-via-else-in_block}

pub returns-then-held_at-gt0 : goal.returns-then-held_at-gt0
returns-then-held_at-gt0 c =
    sym (held_in_hour (state_of c.args.self.now) c.args.block _ (omega arith) (omega arith)
    (sym c.in_block.ensures ∙ c.if-in_block.true) (omega arith))

pub loop-place-init : goal.loop-place-init
loop-place-init c = total_none _

pub loop-place-preserved : goal.loop-place-preserved
loop-place-preserved c =
    let state = state_of c.args.self.now in
    let in_it = rw c.at-hour.ensures at c.in_block.ensures in
    held_in_more state c.args.block c.loop-place.place c.loop-place.invariant
    (elim c.else-in_block.branch [
      | else-in_block-via-then-in_block+else-held_at-gt0 w ↦
          let none : w.held_at.result ≡ 0 = omega arith in
          ap (λ b. cond b (held_at state (suc c.loop-place.place)) 0) (sym in_it ∙ w.if-in_block.true)
          ∙ sym (rw c.at-hour.ensures at w.held_at.ensures) ∙ none
      | else-in_block-via-else-in_block w ↦ ap (λ b. cond b (held_at state (suc c.loop-place.place)) 0)
          (sym in_it ∙ w.if-in_block.false)
    ])

pub returns : goal.returns
returns c = sym (held_in_none (state_of c.args.self.now) c.args.block c.loop-place.place c.loop-place.invariant (omega arith))
