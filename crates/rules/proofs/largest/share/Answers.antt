use Rattle.std.proofs.Common.{◌≡◌, length, get_or, rules, ap, arith}
use Rattle.std.proofs.lemmas.List.FromFn.{fill_by_all}
use Rattle.rules.specs.Accepting.{Claimed}
use Rattle.rules.specs.LargestLaw.{served_above}
use Rattle.rules.specs.LargestRemainder.{largest_share, rank_of, remainder}
use Rattle.rules.specs.Ranks.{rank_same}
use Rattle.rules.proofs.largest.share.Goals as goal

pub give_units-requires-clause-above : goal.give_units-requires-clause-above
give_units-requires-clause-above c k h l =
    let T = c.args.division.now.total in
    let ws = c.args.division.now.claims.now in
    let rests = c.whole_parts-left.new.remainders in
    let n : length rests ≡ length ws = search rules in
    let own : Claimed T ws = search rules in
    let same = rank_same (λ j. get_or rests j 0) (remainder T ws) (length ws) k (omega arith) c.whole_parts-left.ensures.rests in
    let here = c.whole_parts-left.ensures.rests k (omega arith) in
    let left = c.whole_parts-left.ensures.left in
    let ranked = ap (λ m. rank_of (λ j. get_or rests j 0) m k) n in
    omega (arith, here, served_above T ws own k (omega (arith, l, ranked, same, left)))

pub returns : goal.returns
returns c =
    let T = c.args.division.now.total in
    let ws = c.args.division.now.claims.now in
    let rests = c.whole_parts-left.new.remainders in
    let n : length rests ≡ length ws = search rules in
    fill_by_all (largest_share T ws) c.give_units.new.shares (length ws) 0 (omega arith)
    (λ k h.
    let unit = c.give_units.ensures k (omega arith) in
    let whole = c.whole_parts-left.ensures.wholes k h in
    let same = rank_same (λ j. get_or rests j 0) (remainder T ws) (length ws) k h c.whole_parts-left.ensures.rests in
    cc)
