use Rattle.std.proofs.Common.{◌≡◌, ◌∙◌, ℕ, ◌<◌, ◌≤◌, length, arith, refl}
use Rattle.std.proofs.lemmas.List.{length-set}
use Rattle.tally.specs.Years.{day_charges}
use Rattle.tariff.specs.declared.blocks.Block.TheVariants.{Heavy, Light}
use Rattle.book.specs.Books.{state_of}
use Rattle.book.specs.PricedDays.{prices_in}
use Rattle.book.proofs.Blanks.{at_same}
use Rattle.book.proofs.RowWrites.{row_next, row_all}
use Rattle.book.proofs.Settling.{rows_none, rows_more, rows_all}
use Rattle.book.proofs.book.Book.settle.Goals as goal

pub returns-clause-heavy : goal.returns-clause-heavy
returns-clause-heavy c = rows_all _ _ _ _ c.loop-place.place c.loop-place.settled.heavy c.loop-place.invariant.heavy (omega arith)

pub returns-clause-light : goal.returns-clause-light
returns-clause-light c = rows_all _ _ _ _ c.loop-place.place c.loop-place.settled.light c.loop-place.invariant.light (omega arith)

pub loop-place-init : goal.loop-place-init
loop-place-init c = record {
  heavy = rows_none _ _ _ _;
  light = rows_none _ _ _ _;
  charges = λ seller l m. absurd (omega arith);
  small = λ seller. rw (at_same {A = ℕ} 12 0 seller) (omega arith);
  long = refl;
}

pub payments-requires-clause-shares : goal.payments-requires-clause-shares
payments-requires-clause-shares c = λ buyer l. c.requires.shares Heavy c.loop-place.place buyer (omega arith) l

pub payments-requires-in-loop-place-clause-shares : goal.payments-requires-in-loop-place-clause-shares
payments-requires-in-loop-place-clause-shares c = λ buyer l. c.requires.shares Light c.loop-place.place buyer (omega arith) l

pub loop-place-preserved : goal.loop-place-preserved
loop-place-preserved c =
    let old = c.loop-place in
    let cuts = c.cut_charges-cuts.ensures.cuts in
    let day = rw c.at-seller.ensures at (c.day_charges.ensures.value (prices_in c.args.prices.now) c.at-seller.result cuts) in
    let l : old.place < length old.settled.charges = omega (arith, old.invariant.long) in
    record {
      heavy = rows_more _ _ _ _ old.place old.settled.heavy old.invariant.heavy _ (omega arith)
          (λ buyer m. rw c.allotted_hours-heavy_hours.ensures.block at c.payments.ensures old.place buyer c.at-seller.ensures m);
      light = rows_more _ _ _ _ old.place old.settled.light old.invariant.light _ (omega arith)
          (λ buyer m. rw c.allotted_hours-light_hours.ensures.block at c.payments-in-loop-place.ensures old.place buyer c.at-seller.ensures m);
      charges =
          row_next 0 old.settled.charges old.place c.day_charges.result
          (λ seller x. x ≡ day_charges (state_of c.args.self.now) (prices_in c.args.prices.now) seller) l day old.invariant.charges;
      small = row_all 0 old.settled.charges old.place c.day_charges.result (λ x. x ≤ 1152000000000000) l c.day_charges.ensures.size
          old.invariant.small;
      long = length-set old.settled.charges old.place c.day_charges.result ∙ old.invariant.long;
    }
