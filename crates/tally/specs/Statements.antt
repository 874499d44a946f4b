-- The statement of a closed day, and what statements come to in the accounts. Assumes nothing.
use Rattle.std.specs.Prelude.{ℕ, zero, suc, List, [], ◌∷◌, ℤ, pos, ◌+ℤ◌, ◌-ℤ◌}
use Rattle.tariff.specs.Division.{Division}
use Rattle.tariff.specs.declared.blocks.Block.{Block}
use Rattle.tariff.specs.declared.blocks.Block.TheVariants.{Heavy, Light}
use Rattle.tally.specs.Charges.{pool_charge, buyer_charge}
use Rattle.tally.specs.DayPrices.{DayPrices}
use Rattle.tally.specs.MakeWhole.{make_whole_share}
use Rattle.tally.specs.Numbered.{total_z}
use Rattle.tally.specs.Settlement.{block_total, holdback, energy}
use Rattle.tally.specs.States.{State}

-- what passes between a seller and a buyer in one block: the buyer pays the first three, the seller the charges
pub record Payment : Type 0 where
  pub holdback : ℤ
  pub energy : ℤ
  pub make_whole : ℤ
  pub to_pool : ℤ
  pub to_buyer : ℤ

-- one page for each block, one entry for each seller and buyer
abbrev pub Statement : Type 0
Statement = Block → (seller buyer : ℕ) → Payment

-- each hour's payments are in the page of its block
abbrev pub statement_of : State → DayPrices → (ℕ → Division) → Statement
statement_of state prices meanings block seller buyer = record {
  holdback = holdback state prices block seller buyer;
  energy = energy state prices block seller buyer;
  make_whole = pos (make_whole_share state prices meanings block seller buyer);
  to_pool = block_total state block (λ hour. pos (pool_charge state prices seller hour buyer));
  to_buyer = block_total state block (λ hour. pos (buyer_charge state prices seller hour buyer));
}

abbrev pub buyer_pays : Payment → ℤ
buyer_pays p = p.holdback +ℤ p.energy +ℤ p.make_whole

abbrev pub seller_pays : Payment → ℤ
seller_pays p = p.to_pool +ℤ p.to_buyer

abbrev pub both_blocks : (Block → ℤ) → ℤ
both_blocks f = f Heavy +ℤ f Light

module _ (parties : ℕ) (statement : Statement) where
  -- over both pages: the sum of a seller's entries, and of a buyer's
  abbrev pub of_seller : (Payment → ℤ) → ℕ → ℤ
  of_seller figure seller = both_blocks (λ block. total_z (λ buyer. figure (statement block seller buyer)) parties)

  abbrev pub of_buyer : (Payment → ℤ) → ℕ → ℤ
  of_buyer figure buyer = both_blocks (λ block. total_z (λ seller. figure (statement block seller buyer)) parties)

  -- What a statement pays to an account, and what it takes from it. Account 0 is the pool's.
  unfoldable pub paid_to : ℕ → ℤ
  paid_to zero = total_z (of_seller (λ p. p.to_pool)) parties
  paid_to (suc k) = of_seller buyer_pays (suc k) +ℤ of_buyer (λ p. p.to_buyer) (suc k)

  unfoldable pub taken_from : ℕ → ℤ
  taken_from zero = pos 0
  taken_from (suc k) = of_buyer buyer_pays (suc k) +ℤ of_seller seller_pays (suc k)

  abbrev pub net : ℕ → ℤ
  net account = paid_to account -ℤ taken_from account

-- what is due to an account: what the statements paid to it less what they took
abbrev pub due : ℕ → List Statement → ℕ → ℤ
due parties [] account = pos 0
due parties (statement ∷ statements) account = net parties statement account +ℤ due parties statements account

-- the delivery charges that statements took from a seller
abbrev pub charges_of : ℕ → List Statement → ℕ → ℤ
charges_of parties [] seller = pos 0
charges_of parties (statement ∷ statements) seller = of_seller parties statement seller_pays seller +ℤ charges_of parties statements seller
