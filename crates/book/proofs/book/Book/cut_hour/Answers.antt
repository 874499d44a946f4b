use Rattle.std.proofs.Common.{◌≡◌, ◌≤◌, ◌<◌, min, length, refl, ◌∙◌, rules, arith}
use Rattle.std.proofs.Math.ListN.{length-set}
use Rattle.tally.specs.Charges.{cut_charge}
use Rattle.book.specs.Books.{state_of}
use Rattle.book.specs.PricedDays.{prices_in}
use Rattle.book.proofs.Cutting.{left_first, cut_next, left_next, zeros_none, zeros_small}
use Rattle.book.proofs.RowWrites.{row_next, row_all, row_rest}
use Rattle.book.proofs.book.Book.cut_hour.Goals as goal

pub loop-buyer-init : goal.loop-buyer-init
loop-buyer-init c = record {
  room = c.requires.before ∙ left_first (state_of c.args.self.now) (prices_in c.args.prices.now)
      c.args.seller c.args.hour;
  cuts = λ k first last. absurd (omega arith);
  others = λ k _. zeros_none k;
  small = zeros_small;
  length = refl;
}

pub loop-buyer-preserved : goal.loop-buyer-preserved
loop-buyer-preserved c =
    let state = state_of c.args.self.now in
    let prices = prices_in c.args.prices.now in
    let seller = c.args.seller in
    let hour = c.args.hour in
    let buyer = c.loop-buyer.buyer in
    let m : c.min-cut.result ≡ min c.charge-charge.result c.loop-buyer.left = search rules in
    let l : buyer < length c.loop-buyer.cuts = omega arith in
    let next = cut_next state prices seller hour buyer _ _ c.loop-buyer.invariant.room (rw c.at.ensures at c.charge-charge.ensures.value) in
    let left = left_next state prices seller hour buyer _ _ c.loop-buyer.invariant.room (rw c.at.ensures at c.charge-charge.ensures.value) in
    let small : c.min-cut.result ≤ 4000000000000 = omega (arith, m, c.charge-charge.ensures.size) in
    record {
      room = rw m left;
      cuts = row_next 0 c.loop-buyer.cuts buyer _ (λ k x. x ≡ cut_charge state prices seller hour k) l
          (m ∙ next) c.loop-buyer.invariant.cuts;
      others = λ k after. row_rest 0 c.loop-buyer.cuts buyer c.min-cut.result l k after
          ∙ c.loop-buyer.invariant.others k (omega arith);
      small = row_all 0 c.loop-buyer.cuts buyer _ (λ x. x ≤ 4000000000000) l small c.loop-buyer.invariant.small;
      length = length-set _ _ _ ∙ c.loop-buyer.invariant.length;
    }

pub returns-clause-after : goal.returns-clause-after
returns-clause-after c =
    let e : c.loop-buyer.buyer ≡ c.args.self.now.pool.parties = search rules in
    let room = rw e at c.loop-buyer.invariant.room in
    omega (arith, room)
