use Rattle.std.proofs.Common.{◌≡◌, ◌≤◌, ◌<◌, ℕ, [], false, List, length, refl, ◌∙◌, rules, arith}
use Rattle.std.proofs.Math.ListN.{length-set}
use Rattle.tally.specs.Charges.{cut_charge, is_failure_day}
use Rattle.tally.specs.States.{IsParty}
use Rattle.book.specs.Books.{state_of}
use Rattle.book.specs.PricedDays.{prices_in}
use Rattle.book.specs.Records.{at}
use Rattle.book.proofs.Cutting.{left_whole, left_more, zero_rows_none, zero_rows_small, uncharged}
use Rattle.book.proofs.Blanks.{at_row}
use Rattle.book.proofs.RowWrites.{row_next, row_all}
use Rattle.book.proofs.book.Book.cut_charges.Goals as goal

pub returns-then-not-is_failure_day-clause-cuts : goal.returns-then-not-is_failure_day-clause-cuts
returns-then-not-is_failure_day-clause-cuts c =
    let e : is_failure_day (state_of c.args.self.now) c.args.seller ≡ false = search rules in
    uncharged (state_of c.args.self.now) (prices_in c.args.prices.now) c.args.seller e

pub returns-then-not-is_failure_day-clause-others : goal.returns-then-not-is_failure_day-clause-others
returns-then-not-is_failure_day-clause-others c = λ hour buyer _. at_row 0 0 0 hour buyer

pub returns-then-not-is_failure_day-clause-small : goal.returns-then-not-is_failure_day-clause-small
returns-then-not-is_failure_day-clause-small c = λ hour buyer. rw (at_row {A = ℕ} 0 0 0 hour buyer) (omega arith)

pub loop-hour-init : goal.loop-hour-init
loop-hour-init c = record {
  room = c.allowance-left.ensures ∙ left_whole (state_of c.args.self.now) (prices_in c.args.prices.now)
      c.args.seller;
  cuts = λ hour first last. absurd (omega arith);
  others = λ hour buyer _. zero_rows_none hour buyer;
  small = zero_rows_small;
  length = refl;
}

pub loop-hour-preserved : goal.loop-hour-preserved
loop-hour-preserved c =
    let state = state_of c.args.self.now in
    let prices = prices_in c.args.prices.now in
    let seller = c.args.seller in
    let cuts = c.loop-hour.rows in
    let hour = c.loop-hour.hour in
    let l : hour < length cuts = omega arith in
    record {
      room = (rw c.at.ensures at c.cut_hour.ensures.after) ∙ left_more state prices seller hour _ c.loop-hour.invariant.room;
      cuts =
          row_next [] cuts hour _ (λ h (row : List ℕ). (buyer : ℕ) → IsParty state buyer → at 0 row buyer
          ≡ cut_charge state prices seller h buyer) l
          (rw c.at.ensures at c.cut_hour.ensures.cuts) c.loop-hour.invariant.cuts;
      others = row_all [] cuts hour _ (λ (row : List ℕ). (buyer : ℕ) → c.args.self.now.pool.parties < buyer
          → at 0 row buyer ≡ 0) l
          c.cut_hour.ensures.others c.loop-hour.invariant.others;
      small = row_all [] cuts hour _ (λ (row : List ℕ). (buyer : ℕ) → at 0 row buyer ≤ 4000000000000) l
          c.cut_hour.ensures.small c.loop-hour.invariant.small;
      length = length-set _ _ _ ∙ c.loop-hour.invariant.length;
    }
