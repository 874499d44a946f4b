-- Statements that say the same of all parties come to the same in the accounts. Assumes nothing.
use Rattle.std.proofs.Common.{◌≡◌, ℕ, zero, suc, ◌<◌, ◌≤◌, List, [], ◌∷◌, ◌++◌, ℤ, pos, ◌+ℤ◌, ◌-ℤ◌, refl, sym, ◌∙◌, ap, ap₂, arith}
use Rattle.tariff.specs.declared.blocks.Block.{Block}
use Rattle.tariff.specs.declared.blocks.Block.TheVariants.{Heavy, Light}
use Rattle.tally.specs.DayPrices.{DayPrices}
use Rattle.tally.specs.Numbered.{total_z}
use Rattle.tally.specs.RevenueLaws.{Reached, buyers_pay, covered}
use Rattle.tally.specs.Settlement.{credits}
use Rattle.tally.specs.States.{State, IsParty}
use Rattle.tally.specs.Statements.{Statement, Payment, buyer_pays, seller_pays, of_seller, of_buyer, paid_to, taken_from, net, due}
use Rattle.tally.specs.Statements.{charges_of}
use Rattle.tally.proofs.Numbering.{total_z_same}
use Rattle.book.specs.SameStatement.{SameStatement}

module _ (n : ℕ) (few : n ≤ 12) (a b : Statement) (same : SameStatement a b) where
  seller_same : (figure : Payment → ℤ) (seller : ℕ) → 0 < seller → seller ≤ n → of_seller n a figure seller ≡ of_seller n b figure seller
  seller_same figure seller l m = ap₂ ◌+ℤ◌ (by Heavy) (by Light)
    where
      by : (block : Block) → total_z (λ buyer. figure (a block seller buyer)) n ≡ total_z (λ buyer. figure (b block seller buyer)) n
      by block = total_z_same _ _ n (λ k p q. ap figure (same block seller k l (omega arith) p (omega arith)))

  buyer_same : (figure : Payment → ℤ) (buyer : ℕ) → 0 < buyer → buyer ≤ n → of_buyer n a figure buyer ≡ of_buyer n b figure buyer
  buyer_same figure buyer l m = ap₂ ◌+ℤ◌ (by Heavy) (by Light)
    where
      by : (block : Block) → total_z (λ seller. figure (a block seller buyer)) n ≡ total_z (λ seller. figure (b block seller buyer)) n
      by block = total_z_same _ _ n (λ k p q. ap figure (same block k buyer p (omega arith) l (omega arith)))

  pub net_same : (account : ℕ) → account ≤ n → net n a account ≡ net n b account
  unfolding paid_to taken_from
  net_same zero l = ap (λ z. z -ℤ pos 0) (total_z_same _ _ n (λ k p q. seller_same (λ p. p.to_pool) k p q))
  net_same (suc k) l =
      ap₂ ◌-ℤ◌
      (ap₂ ◌+ℤ◌ (seller_same buyer_pays (suc k) (omega arith) l) (buyer_same (λ p. p.to_buyer) (suc k) (omega arith) l))
      (ap₂ ◌+ℤ◌ (buyer_same buyer_pays (suc k) (omega arith) l) (seller_same seller_pays (suc k) (omega arith) l))

  pub charges_same : (seller : ℕ) → 0 < seller → seller ≤ n → of_seller n a seller_pays seller ≡ of_seller n b seller_pays seller
  charges_same = seller_same seller_pays

-- the same of two lists of statements
pub data Alike : List Statement → List Statement → Type 0 where
  none : Alike [] []
  more : {a b : Statement} {xs ys : List Statement} → SameStatement a b → Alike xs ys → Alike (a ∷ xs) (b ∷ ys)

pub alike_append : {xs ys vs ws : List Statement} → Alike xs ys → Alike vs ws → Alike (xs ++ vs) (ys ++ ws)
alike_append none rest = rest
alike_append (more same front) rest = more same (alike_append front rest)

pub due_same : (n : ℕ) → n ≤ 12 → {xs ys : List Statement} → Alike xs ys → (account : ℕ) → account ≤ n → due n xs account ≡ due n ys account
due_same n few none account l = refl
due_same n few (more {a} {b} same rest) account l = ap₂ ◌+ℤ◌ (net_same n few a b same account l) (due_same n few rest account l)

pub year_same : (n : ℕ) → n ≤ 12 → {xs ys : List Statement} → Alike xs ys → (seller : ℕ) → 0 < seller → seller ≤ n
    → charges_of n xs seller ≡ charges_of n ys seller
year_same n few none seller l m = refl
year_same n few (more {a} {b} same rest) seller l m = ap₂ ◌+ℤ◌ (charges_same n few a b same seller l m) (year_same n few rest seller l m)

-- pages that are the statement reach what the statement does
pub reached_same : (state : State) (prices : DayPrices) (a b : Statement) → state.set_up.parties ≤ 12 → SameStatement a b
    → (block : Block) (seller : ℕ) → IsParty state seller → Reached state prices b block seller → Reached state prices a block seller
reached_same state prices a b few same block seller (l, m) reached =
    let pays : (figure : Payment → ℤ) → buyers_pay state a figure block seller ≡ buyers_pay state b figure block seller =
    λ figure. total_z_same _ _ state.set_up.parties (λ k p q. ap figure (same block seller k l (omega arith) p (omega arith))) in
    let all : covered state prices a block seller ≡ covered state prices b block seller =
    ap (λ z. z +ℤ credits state prices block seller) (pays buyer_pays) in
    record {
      reached = rw all reached.reached;
      met = λ above. all ∙ reached.met (rw (sym (pays (λ p. p.make_whole))) above);
      none = reached.none;
    }
