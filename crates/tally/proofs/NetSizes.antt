-- A statement changes no account by more than 10^15 cents. Assumes nothing.
use Rattle.std.proofs.Common.{ℕ, zero, suc, ◌*◌, ◌<◌, ◌≤◌, ℤ, ◌+ℤ◌, ◌-ℤ◌, nat_abs, mul-le-mul_right, arith}
use Rattle.std.proofs.lemmas.Int.{ints}
use Rattle.tariff.specs.declared.blocks.Block.{Block}
use Rattle.tariff.specs.declared.blocks.Block.TheVariants.{Heavy, Light}
use Rattle.tally.specs.Numbered.{total_z}
use Rattle.tally.specs.States.{State, IsParty}
use Rattle.tally.specs.Statements.{Payment, Statement, buyer_pays, seller_pays, both_blocks, of_seller, of_buyer, paid_to, taken_from, net}
use Rattle.tally.proofs.Numbering.{add_size, total_z_bound}
use Rattle.tally.proofs.PaymentSizes.{Sized, SizedStatement}

blocks_size : (f : Block → ℤ) (most : ℕ) → ((block : Block) → nat_abs (f block) ≤ 12 * most) → nat_abs (both_blocks f) ≤ 24 * most
blocks_size f most h = let a = add_size (f Heavy) (f Light) (12 * most) (12 * most) (h Heavy) (h Light) in omega arith

net_of_four : (a b c d : ℤ) → nat_abs a ≤ 24 * 1488000000000 → nat_abs b ≤ 24 * 12000000000000 → nat_abs c ≤ 24 * 1488000000000
    → nat_abs d ≤ 24 * 24000000000000 → nat_abs ((a +ℤ b) -ℤ (c +ℤ d)) ≤ 1000000000000000
net_of_four a b c d p q r s = omega (arith, ints)

-- over at most twelve parties
twelve_size : (f : ℕ → ℤ) (most n : ℕ) → n ≤ 12 → ((k : ℕ) → 0 < k → k ≤ n → nat_abs (f k) ≤ most) → nat_abs (total_z f n) ≤ 12 * most
twelve_size f most n few h = omega (arith, total_z_bound f most n h, mul-le-mul_right most few)

buyer_pays_size : (p : Payment) → Sized p → nat_abs (buyer_pays p) ≤ 1488000000000
buyer_pays_size p s =
    add_size (p.holdback +ℤ p.energy) p.make_whole 528000000000 960000000000
    (add_size p.holdback p.energy 288000000000 240000000000 s.holdback s.energy) s.make_whole

seller_pays_size : (p : Payment) → Sized p → nat_abs (seller_pays p) ≤ 24000000000000
seller_pays_size p s = add_size p.to_pool p.to_buyer 12000000000000 12000000000000 s.to_pool s.to_buyer

module _ (state : State) (few : state.set_up.parties ≤ 12) (statement : Statement) (sized : SizedStatement state statement) where
  abbrev parties : ℕ
  parties = state.set_up.parties

  module _ (figure : Payment → ℤ) (most : ℕ) (small : (p : Payment) → Sized p → nat_abs (figure p) ≤ most) (party : ℕ)
      (is : IsParty state party) where
    of_seller_size : nat_abs (of_seller parties statement figure party) ≤ 24 * most
    of_seller_size =
        blocks_size (λ block. total_z (λ buyer. figure (statement block party buyer)) parties) most
        (λ block. twelve_size (λ buyer. figure (statement block party buyer)) most parties few
        (λ k l m. small (statement block party k) (sized.entries block party k is (l, m))))

    of_buyer_size : nat_abs (of_buyer parties statement figure party) ≤ 24 * most
    of_buyer_size =
        blocks_size (λ block. total_z (λ seller. figure (statement block seller party)) parties) most
        (λ block. twelve_size (λ seller. figure (statement block seller party)) most parties few
        (λ k l m. small (statement block k party) (sized.entries block k party (l, m) is)))

  pool_size : nat_abs (total_z (of_seller parties statement (λ p. p.to_pool)) parties) ≤ 288000000000000
  pool_size =
      twelve_size (of_seller parties statement (λ p. p.to_pool)) 24000000000000 parties few
      (λ k l m.
      blocks_size (λ block. total_z (λ buyer. (statement block k buyer).to_pool) parties) 1000000000000 (λ block. sized.pooled block k))

  pub net_size : (account : ℕ) → account ≤ parties → nat_abs (net parties statement account) ≤ 1000000000000000
  unfolding paid_to taken_from
  net_size zero l = let a = pool_size in omega (arith, ints)
  net_size (suc k) l =
      let is : IsParty state (suc k) = (omega arith, l) in
      net_of_four (of_seller parties statement buyer_pays (suc k)) (of_buyer parties statement (λ p. p.to_buyer) (suc k))
      (of_buyer parties statement buyer_pays (suc k)) (of_seller parties statement seller_pays (suc k))
      (of_seller_size buyer_pays 1488000000000 buyer_pays_size (suc k) is)
      (of_buyer_size (λ p. p.to_buyer) 12000000000000 (λ p s. s.to_buyer) (suc k) is)
      (of_buyer_size buyer_pays 1488000000000 buyer_pays_size (suc k) is)
      (of_seller_size seller_pays 24000000000000 seller_pays_size (suc k) is)
