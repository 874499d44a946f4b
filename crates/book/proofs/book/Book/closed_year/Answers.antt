use Rattle.std.proofs.Common.{◌≡◌, ◌<◌, suc, refl, rules, arith}
use Rattle.book.specs.Records.{at}
use Rattle.book.proofs.Years.{charged_small, counted_more, counted_all}
use Rattle.book.proofs.book.Book.closed_year.Goals as goal

pub overflow_add-year : goal.overflow_add-year
overflow_add-year c =
    let old = charged_small c.args.self.now (suc c.loop-place.place) in
    let more = c.requires.small (suc c.loop-place.place) in
    search (rules, old, more)

pub loop-place-preserved : goal.loop-place-preserved
loop-place-preserved c =
    let l : c.loop-place.place < 12 = omega arith in
    counted_more c.args.self.now (at 0 c.args.charges.now) c.loop-place.place c.loop-place.year _ _ _
    c.loop-place.invariant l
    (rw c.at-seller.ensures at c.failure_days.ensures) (rw c.at-seller.ensures at c.month_misses.ensures.whole c.requires.is_open) refl

pub returns : goal.returns
returns c =
    let book = c.args.self.now in
    let e : c.loop-place.place ≡ book.pool.parties = omega arith in
    counted_all book (at 0 c.args.charges.now) c.loop-place.year (rw e at c.loop-place.invariant)
