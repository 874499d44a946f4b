use Rattle.std.proofs.Common.{◌≡◌, ◌<◌, suc, false, cond, length, length-set, refl, sym, ◌∙◌, ap, arith}
use Rattle.tally.specs.DayPrices.{in_block}
use Rattle.tally.specs.States.{hour_at}
use Rattle.book.specs.Books.{state_of}
use Rattle.book.proofs.HourLists.{known_first, known_more, left_out, none_listed, written}
use Rattle.book.proofs.book.Book.allotted_hours.Goals as goal
use Rattle.book.proofs.book.Book.allotted_hours.Goals.{then-in_block+then-is_allotted, else-in_block}
use Rattle.book.proofs.book.Book.allotted_hours.Goals.{else-in_block-via-then-in_block+else-is_allotted, else-in_block-via-else-in_block}

pub loop-place-init : goal.loop-place-init
loop-place-init c = record {
  long = refl;
  few = omega arith;
  known = known_first;
  comes = none_listed _ _ _;
}

pub loop-place-preserved : goal.loop-place-preserved
loop-place-preserved c =
    let state = state_of c.args.self.now in
    let block = c.args.block in
    let old = c.loop-place in
    let p = old.place in
    let in_it = rw c.at-hour.ensures at c.in_block.ensures in
    let l : old.count < length old.places = omega (arith, old.invariant.long) in
    elim c.if-in_block.branch [
      | then-in_block+then-is_allotted w ↦
          rw (w.places-is, w.count-is) (record {
            long = length-set _ _ _ ∙ old.invariant.long;
            few = omega arith;
            known = known_more old.places old.count p l c.loop-place-test.true old.invariant.known;
            comes =
                written state block old.places old.count p old.invariant.comes l
                (sym in_it ∙ w.if-in_block.true);
          })
      | else-in_block w ↦
          let out : cond (in_block state block (suc p)) (hour_at state (suc p)).allotted false ≡ false =
          elim w.else-in_block.branch [
            | else-in_block-via-then-in_block+else-is_allotted w' ↦
                ap (λ b. cond b (hour_at state (suc p)).allotted false) (sym in_it ∙ w'.if-in_block.true)
                ∙ sym (rw c.at-hour.ensures at w'.is_allotted.ensures) ∙ w'.if-is_allotted.false
            | else-in_block-via-else-in_block w' ↦
                ap (λ b. cond b (hour_at state (suc p)).allotted false) (sym in_it ∙ w'.if-in_block.false)
          ] in
          rw (w.places-is, w.count-is) (record {
            long = old.invariant.long;
            few = omega arith;
            known = old.invariant.known;
            comes = left_out state block old.places old.count p old.invariant.comes out;
          })
    ]
