use Rattle.std.proofs.Common.{◌≡◌, ◌*◌, ◌≤◌, pos, cond}
use Rattle.tally.specs.DayPrices.{in_block}
use Rattle.tally.specs.Numbered.{total_z}
use Rattle.tally.specs.States.{hour_at}
use Rattle.book.specs.Books.{state_of}
use Rattle.book.specs.CutTables.{payee_part}
use Rattle.book.specs.Records.{in_row}
use Rattle.book.proofs.book.Book.to_payee.Given as goal

abbrev pub invariant-loop-hour : goal.invariant-loop-hour
invariant-loop-hour l = record {
  sum : pos l.all ≡ total_z (λ hour. cond (in_block (state_of l.self) l.block hour)
      (pos (payee_part l.cover ((hour_at (state_of l.self) hour).cover l.seller l.buyer)
      (in_row 0 l.rows hour l.buyer)))
      (pos 0)) l.hour;
  small : l.all ≤ l.hour * 4000000000000;
}
