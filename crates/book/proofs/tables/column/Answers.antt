use Rattle.std.proofs.Common.{◌≡◌, ◌<◌, suc, length, length-set, ◌∙◌, rules, arith}
use Rattle.book.specs.Records.{by_seller}
use Rattle.book.proofs.RowWrites.{place_next}
use Rattle.book.proofs.tables.column.Goals as goal

pub loop-buyer-preserved : goal.loop-buyer-preserved
loop-buyer-preserved c =
    let old = c.loop-buyer in
    let l : old.buyer < length old.column = omega (arith, old.invariant.length) in
    let wide : c.from.result ≡ c.get.result = search rules in
    record {
      has = place_next 0 old.column old.buyer _ (λ k x. x ≡ by_seller 0 c.args.table.now c.args.seller (suc k)) l
          (wide ∙ (rw c.at.ensures at c.get.ensures 0)) old.invariant.has;
      length = length-set _ _ _ ∙ old.invariant.length;
    }
