-- Every payment enters two accounts, so that all accounts come to 0. Assumes nothing.
use Rattle.std.proofs.Common.{◌≡◌, ℕ, zero, suc, ◌<◌, ◌≤◌, List, [], ◌∷◌, ℤ, pos, ◌+ℤ◌, ◌-ℤ◌, sym, refl, ap, ◌∙◌, ap₂, arith}
use Rattle.std.proofs.lemmas.Int.{ints}
use Rattle.tariff.specs.declared.blocks.Block.TheVariants.{Heavy, Light}
use Rattle.tally.specs.AccountLaws.{AccountsBalance, all_accounts}
use Rattle.tally.specs.Numbered.{total_z}
use Rattle.tally.specs.Statements.{Statement, Payment, buyer_pays, seller_pays, of_seller, of_buyer, paid_to, taken_from, net, due}
use Rattle.tally.specs.Tally.{tallied}
use Rattle.tally.proofs.Numbering.{total_z_none, total_z_more, total_z_same, total_z_zero, total_z_add, total_z_swap}

pub total_z_sub : (f g : ℕ → ℤ) (n : ℕ) → total_z (λ k. f k -ℤ g k) n ≡ total_z f n -ℤ total_z g n
total_z_sub f g zero = total_z_none (λ k. f k -ℤ g k) ∙ sym (ap₂ ◌-ℤ◌ (total_z_none f) (total_z_none g))
total_z_sub f g (suc n) =
    let a = total_z_more f n in
    let b = total_z_more g n in
    let c = total_z_more (λ k. f k -ℤ g k) n in
    let d = total_z_sub f g n in
    omega (arith, ints, a, b, c, d)

module _ (parties : ℕ) (statement : Statement) where
  -- a figure summed by sellers comes to the same as by buyers
  sellers_as_buyers : (F : Payment → ℤ) → total_z (of_seller parties statement F) parties ≡ total_z (of_buyer parties statement F) parties
  sellers_as_buyers F =
      total_z_add (λ s. total_z (λ b. F (statement Heavy s b)) parties) (λ s. total_z (λ b. F (statement Light s b)) parties) parties
      ∙ ap₂ ◌+ℤ◌ (total_z_swap (λ s b. F (statement Heavy s b)) parties parties)
      (total_z_swap (λ s b. F (statement Light s b)) parties parties)
      ∙ sym (total_z_add (λ b. total_z (λ s. F (statement Heavy s b)) parties)
      (λ b. total_z (λ s. F (statement Light s b)) parties) parties)

  -- two figures together
  both_figures : (F G : Payment → ℤ) (seller : ℕ)
      → of_seller parties statement (λ p. F p +ℤ G p) seller ≡ of_seller parties statement F seller +ℤ of_seller parties statement G seller
  both_figures F G s =
      let a = total_z_add (λ b. F (statement Heavy s b)) (λ b. G (statement Heavy s b)) parties in
      let b = total_z_add (λ b. F (statement Light s b)) (λ b. G (statement Light s b)) parties in
      omega (arith, ints, a, b)

  -- what parties' accounts get, and what is taken from them
  paid : total_z (paid_to parties statement) parties
      ≡ total_z (of_seller parties statement buyer_pays) parties +ℤ total_z (of_buyer parties statement (λ p. p.to_buyer)) parties
  unfolding paid_to
  paid = total_z_same _ _ parties each
      ∙ total_z_add (of_seller parties statement buyer_pays) (of_buyer parties statement (λ p. p.to_buyer)) parties
    where
      each : (k : ℕ) → 0 < k → k ≤ parties
          → paid_to parties statement k ≡ of_seller parties statement buyer_pays k +ℤ of_buyer parties statement (λ p. p.to_buyer) k
      each zero l m = absurd (omega arith)
      each (suc k) l m = refl

  taken : total_z (taken_from parties statement) parties
      ≡ total_z (of_buyer parties statement buyer_pays) parties +ℤ total_z (of_seller parties statement seller_pays) parties
  unfolding taken_from
  taken =
      total_z_same _ _ parties each ∙ total_z_add (of_buyer parties statement buyer_pays) (of_seller parties statement seller_pays) parties
    where
      each : (k : ℕ) → 0 < k → k ≤ parties
          → taken_from parties statement k ≡ of_buyer parties statement buyer_pays k +ℤ of_seller parties statement seller_pays k
      each zero l m = absurd (omega arith)
      each (suc k) l m = refl

  -- charges go to the pool or to buyers
  charged : total_z (of_seller parties statement seller_pays) parties
      ≡ total_z (of_seller parties statement (λ p. p.to_pool)) parties +ℤ total_z (of_seller parties statement (λ p. p.to_buyer)) parties
  charged =
      total_z_same _ _ parties (λ k _ _. both_figures (λ p. p.to_pool) (λ p. p.to_buyer) k)
      ∙ total_z_add (of_seller parties statement (λ p. p.to_pool)) (of_seller parties statement (λ p. p.to_buyer)) parties

  pool : net parties statement 0 ≡ total_z (of_seller parties statement (λ p. p.to_pool)) parties
  unfolding paid_to taken_from
  pool = omega (arith, ints)

  statement_balances : net parties statement 0 +ℤ total_z (net parties statement) parties ≡ pos 0
  statement_balances =
      let a = total_z_sub (paid_to parties statement) (taken_from parties statement) parties in
      let b = sellers_as_buyers buyer_pays in
      let c = sellers_as_buyers (λ p. p.to_buyer) in
      omega (arith, ints, a, b, c, pool, paid, taken, charged)

pub accounts_balance_lem : (parties : ℕ) (statements : List Statement) → all_accounts parties statements ≡ pos 0
accounts_balance_lem parties [] = ap (λ z. pos 0 +ℤ z) (total_z_zero (due parties []) parties (λ _ _ _. refl))
accounts_balance_lem parties (statement ∷ statements) =
    let a = total_z_add (net parties statement) (due parties statements) parties in
    let b = statement_balances parties statement in
    let c = accounts_balance_lem parties statements in
    omega (arith, ints, a, b, c)

pub accounts_balance_always : AccountsBalance
accounts_balance_always set_up events proper lawful =
    accounts_balance_lem (tallied set_up events).state.set_up.parties (tallied set_up events).statements
