-- No figure of a statement passes 2 × 10^13 cents. Assumes nothing.
use Rattle.std.proofs.Common.{◌≡◌, ℕ, ◌≤◌, pos, ◌*ℤ◌, nat_abs, arith}
use Rattle.tariff.specs.Answers.{granted}
use Rattle.tariff.specs.Division.{Division}
use Rattle.tariff.specs.Tables.{Tables}
use Rattle.tariff.specs.declared.blocks.Block.{Block}
use Rattle.tariff.specs.declared.charges.Cover.{Cover}
use Rattle.tariff.specs.declared.charges.Cover.TheVariants.{Covered, Uncovered}
use Rattle.tally.specs.Charges.{pool_part, buyer_part}
use Rattle.tally.specs.DayPrices.{DayPrices, needed_prices, prices_of}
use Rattle.tally.specs.Events.{close_day, Lawfully}
use Rattle.tally.specs.SizeLaws.{PaymentsFit, SmallPayment}
use Rattle.tally.specs.MakeWhole.{make_whole_share}
use Rattle.tally.specs.Numbered.{total_z}
use Rattle.tally.specs.Pairs.{pair, delivered}
use Rattle.tally.specs.Denials.{answer}
use Rattle.tally.specs.Settlement.{holdback, energy}
use Rattle.tally.specs.States.{State, IsParty, hour_at}
use Rattle.tally.specs.Statements.{Payment, Statement, statement_of}
use Rattle.tally.specs.Tally.{tallied}
use Rattle.tally.proofs.BlockHours.{block_size}
use Rattle.tally.proofs.Findings.{close_found}
use Rattle.tally.proofs.ChargeSizes.{part_size, parts_size}
use Rattle.tally.proofs.MakeWholeSize.{product_size, make_whole_size}
use Rattle.tally.proofs.Numbering.{term_le}
use Rattle.tally.proofs.PriceSizes.{SmallPrices, needed_small, energy_price_size, holdback_price_size}
use Rattle.tally.proofs.Revenue.{make_whole_adds, sharing_granted}
use Rattle.tally.proofs.Sizes.{pair_size, delivered_size}
use Rattle.tally.proofs.Sound.{Sound, sound}

-- what a close's payments keep to, which is less than they may come to
pub record Sized (payment : Payment) : Type 0 where
  pub holdback : nat_abs payment.holdback ≤ 288000000000
  pub energy : nat_abs payment.energy ≤ 240000000000
  pub make_whole : nat_abs payment.make_whole ≤ 960000000000
  pub to_pool : nat_abs payment.to_pool ≤ 12000000000000
  pub to_buyer : nat_abs payment.to_buyer ≤ 12000000000000

-- and a close's statement, in which what a seller pays to the pool in a block is so small for all buyers together
pub record SizedStatement (state : State) (statement : Statement) : Type 0 where
  pub entries : (block : Block) (seller buyer : ℕ) → IsParty state seller → IsParty state buyer → Sized (statement block seller buyer)
  pub pooled : (block : Block) (seller : ℕ)
      → nat_abs (total_z (λ buyer. (statement block seller buyer).to_pool) state.set_up.parties) ≤ 12000000000000

pool_part_le : (cover : Cover) (cents : ℕ) → pool_part cover cents ≤ cents
pool_part_le Covered cents = omega arith
pool_part_le Uncovered cents = omega arith

buyer_part_le : (cover : Cover) (cents : ℕ) → buyer_part cover cents ≤ cents
buyer_part_le Covered cents = omega arith
buyer_part_le Uncovered cents = omega arith

module _ (state : State) (sound : Sound state) (prices : DayPrices) (small : SmallPrices prices) (block : Block) (seller buyer : ℕ) where
  pub holdback_size : nat_abs (holdback state prices block seller buyer) ≤ 288000000000
  unfolding holdback
  holdback_size =
      block_size state block (λ hour. pos (pair (hour_at state hour) seller buyer) *ℤ (prices_of state prices hour).holdback) 12000000000
      (λ hour _. product_size (pair (hour_at state hour) seller buyer) 10000 (prices_of state prices hour).holdback 1200000
      (pair_size state.set_up.parties (hour_at state hour) (sound.hours hour) seller buyer)
      (holdback_price_size state prices small hour))

  pub energy_size : nat_abs (energy state prices block seller buyer) ≤ 240000000000
  unfolding energy
  energy_size =
      block_size state block (λ hour. pos (delivered (hour_at state hour) seller buyer) *ℤ (prices_of state prices hour).energy) 10000000000
      (λ hour _. product_size (delivered (hour_at state hour) seller buyer) 10000 (prices_of state prices hour).energy 1000000
      (delivered_size state.set_up.parties (hour_at state hour) (sound.hours hour) seller buyer)
      (energy_price_size state prices small hour))

module _ (state : State) (sound : Sound state) (tables : Tables) (most : ℕ) (meanings : ℕ → Division) (heavy_page light_page : ℕ)
    (lawful : Lawfully (close_day tables most meanings heavy_page light_page))
    (ok : answer state (close_day tables most meanings heavy_page light_page) ≡ granted) where
  abbrev prices : DayPrices
  prices = needed_prices state tables

  small : SmallPrices prices
  small = needed_small state tables lawful.0

  -- a share is a part of the make-whole
  share_size : (block : Block) (seller buyer : ℕ) → IsParty state seller → IsParty state buyer
      → make_whole_share state prices meanings block seller buyer ≤ 960000000000
  share_size block seller buyer s b =
      let shared =
      sharing_granted state prices most block seller s (close_found state tables most meanings heavy_page light_page ok).shared in
      omega (
        arith,
        term_le (make_whole_share state prices meanings block seller) buyer state.set_up.parties b.0 b.1,
        make_whole_adds state prices most meanings block seller lawful.1 shared,
        make_whole_size state sound block seller prices small,
      )

  payment_sized : (block : Block) (seller buyer : ℕ) → IsParty state seller → IsParty state buyer
      → Sized (statement_of state prices meanings block seller buyer)
  payment_sized block seller buyer s b = record {
    holdback = holdback_size state sound prices small block seller buyer;
    energy = energy_size state sound prices small block seller buyer;
    make_whole = share_size block seller buyer s b;
    to_pool = part_size state sound prices small pool_part pool_part_le block seller buyer;
    to_buyer = part_size state sound prices small buyer_part buyer_part_le block seller buyer;
  }

  pub statement_sized : SizedStatement state (statement_of state prices meanings)
  statement_sized = record {
    entries = payment_sized;
    pooled = λ block seller. parts_size state sound prices small pool_part pool_part_le block seller state.set_up.parties;
  }

fits : (payment : Payment) → Sized payment → SmallPayment payment
fits payment sized = record {
  holdback = omega (arith, sized.holdback);
  energy = omega (arith, sized.energy);
  make_whole = omega (arith, sized.make_whole);
  to_pool = omega (arith, sized.to_pool);
  to_buyer = omega (arith, sized.to_buyer);
}

pub payments_fit_lem : PaymentsFit
payments_fit_lem set_up events proper lawful tables most meanings heavy_page light_page lawfully ok block seller buyer s b =
    let state = (tallied set_up events).state in
    fits (statement_of state (needed_prices state tables) meanings block seller buyer)
    ((statement_sized state
    (sound set_up events proper lawful) tables most meanings heavy_page light_page lawfully ok).entries block seller buyer s b)
