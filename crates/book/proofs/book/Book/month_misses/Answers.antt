use Rattle.std.proofs.Common.{ℕ, suc, max, cond, eqb, refl, ◌∙◌, ap, []}
use Rattle.book.specs.Records.{at}
use Rattle.book.proofs.Facts.{sound_of}
use Rattle.book.proofs.Misses.{counted_small, months_small, whole_row}
use Rattle.book.proofs.book.Book.month_misses.Goals as goal

pub returns-clause-size : goal.returns-clause-size
returns-clause-size c =
    counted_small _ _ _ _ c.counted.ensures.length (months_small c.args.self.now (suc c.place.result))
    c.largest_miss.ensures.size c.counted.ensures.value

pub returns-clause-whole : goal.returns-clause-whole
returns-clause-whole c = λ open_.
    let year = c.args.self.now.year in
    let old : ℕ → ℕ = at 0 (at [] year.misses (suc c.place.result)) in
    rw (← c.place.ensures.value)
    (whole_row c.counted.result old year.month c.largest_miss.result refl c.counted.ensures.length
    ((sound_of c.args.self.now).month open_)
    c.counted.ensures.value c.counted.ensures.beyond
    ∙ ap (λ miss k. max (old k) (cond (eqb k year.month) miss 0)) (rw (← c.place.ensures.value) at c.largest_miss.ensures.value))
