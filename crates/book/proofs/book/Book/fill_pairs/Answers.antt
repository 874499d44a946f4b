use Rattle.std.proofs.Common.{◌≡◌, ℕ, suc, ap, sym, ◌∙◌, subst, nat_abs, to_z-of_z}
use Rattle.std.proofs.lemmas.Result.{on_ok_weaker}
use Rattle.book.specs.Books.{pairs_at}
use Rattle.book.specs.Records.{by_seller, held_of}
use Rattle.book.specs.declared.records.HourRecord.{HourRecord}
use Rattle.book.specs.PairPages.{HasPairs}
use Rattle.book.proofs.PairPages.{pairs_on}
use Rattle.book.proofs.book.Book.fill_pairs.Goals as goal

pub returns-in-Allotted-clause-pairs : goal.returns-in-Allotted-clause-pairs
returns-in-Allotted-clause-pairs c =
    let book = c.args.self.now in
    let hour = c.in_ok-hour.hour in
    let named : hour ≡ nat_abs c.args.hour = simp (to_z-of_z, c.ranges.hour) at c.in_ok-hour.ensures.1 in
    let Has : ℕ → Type 0 = λ h. HasPairs (pairs_at book h) c.fill.new.self.entries.now in
    on_ok_weaker c.fill.result
    (λ page. subst Has named (pairs_on (pairs_at book hour) c.turned.result c.fill.new.self.entries.now
    (λ seller buyer l m. c.turned.ensures seller buyer l m
    ∙ ap (λ (pairs : ℕ → ℕ → ℕ). pairs (suc seller) (suc buyer)) (ap (λ (r : HourRecord). by_seller 0 (held_of r).pairs) (sym c.in-Allotted.is) ∙ c.hour_record.ensures.pairs))
    (page 0)))
    c.fill.ensures.value
