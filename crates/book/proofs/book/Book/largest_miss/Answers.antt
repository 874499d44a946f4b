use Rattle.std.proofs.Common.{suc, sym, ◌∙◌, arith}
use Rattle.tally.proofs.Numbering.{greatest_none}
use Rattle.book.proofs.Steps.{greatest_step}
use Rattle.book.proofs.Unallotted.{unmissed}
use Rattle.book.proofs.book.Book.largest_miss.Goals as goal
use Rattle.book.proofs.book.Book.largest_miss.Goals.{then-is_allotted, else-is_allotted}

pub loop-place-init : goal.loop-place-init
loop-place-init c = record { most = sym (greatest_none _); small = omega arith }

pub loop-place-preserved : goal.loop-place-preserved
loop-place-preserved c =
    let old = c.loop-place in
    elim c.if-is_allotted.branch [
      | then-is_allotted w ↦
          let most = greatest_step _ old.place _ _ old.invariant.most (rw c.at-hour.ensures at w.missed_at.ensures.value) in
          record { most = omega (arith, most, w.max-largest.ensures, w.largest-is); small = omega arith }
      | else-is_allotted w ↦
          let isnt = sym (rw c.at-hour.ensures at c.is_allotted.ensures) ∙ w.if-is_allotted.false in
          let none = unmissed c.args.self.now (suc old.place) isnt c.args.seller in
          let most = greatest_step _ old.place _ _ old.invariant.most (sym none) in
          record { most = omega (arith, most, w.largest-is); small = omega arith }
    ]
