-- The sizes of an hour's figures: holdings, pairs, and what is deployed, missed, delivered and declined. Assumes nothing.
use Rattle.std.proofs.Common.{ℕ, zero, suc, ◌≤◌, Bool, true, false, cond, ltb, ℤ, pos, negsuc, nat_abs, arith}
use Rattle.tally.specs.Allotment.{counted_offer, surplus}
use Rattle.tally.specs.Hours.{Hour}
use Rattle.tally.specs.Numbered.{total, positive_part}
use Rattle.tally.specs.Pairs.{pair, served, delivered, declined}
use Rattle.tally.proofs.Numbering.{total_none, total_more, total_le}
use Rattle.tally.proofs.Overlaps.{overlaps, pair_within}
use Rattle.tally.proofs.SoundHours.{SoundHour}

pub positive_size : (z : ℤ) → positive_part z ≤ nat_abs z
positive_size (pos n) = omega arith
positive_size (negsuc n) = omega arith

cond_size : (b : Bool) (x most : ℕ) → x ≤ most → cond b 0 x ≤ most
cond_size true x most h = omega arith
cond_size false x most h = h

-- a seller's pairs with any number of buyers come to no more than its holding
pub pairs_within : (hour : Hour) (seller n : ℕ) → total (pair hour seller) n ≤ hour.holdings seller
unfolding pair
pairs_within hour zero n = omega (arith, overlaps (served hour) 0 (total hour.holdings 0) n (omega arith), total_none hour.holdings)
pairs_within hour (suc k) n =
    let more = total_more hour.holdings k in
    omega (arith, overlaps (served hour) (total hour.holdings k) (total hour.holdings (suc k)) n (omega arith))

module _ (parties : ℕ) (hour : Hour) (sound : SoundHour parties hour) where
  pub counted_size : (p : ℕ) → counted_offer hour p ≤ 5000
  counted_size p = cond_size (ltb 0 (hour.requests p)) (hour.offers p) 5000 (sound.offers p).0

  pub surplus_size : (p : ℕ) → surplus hour p ≤ 5000
  surplus_size p = omega (arith, positive_size (hour.results p), (sound.results p).0)

  pub holding_size : (p : ℕ) → hour.holdings p ≤ 10000
  holding_size p = omega (arith, sound.within p, counted_size p, surplus_size p)

  pub pair_size : (s b : ℕ) → pair hour s b ≤ 10000
  pair_size s b = omega (arith, pair_within hour s b, holding_size s)

  pub deployed_size : (s b : ℕ) → hour.deployed s b ≤ 10000
  deployed_size s b = omega (arith, sound.ordered.deployments s b, pair_size s b)

  pub missed_size : (s b : ℕ) → hour.missed s b ≤ 10000
  missed_size s b = omega (arith, sound.ordered.misses s b, deployed_size s b)

  pub delivered_size : (s b : ℕ) → delivered hour s b ≤ 10000
  delivered_size s b = omega (arith, deployed_size s b)

  pub declined_size : (s b : ℕ) → declined hour s b ≤ 10000
  declined_size s b = omega (arith, pair_size s b)

  -- of one seller with any number of buyers together
  pub pairs_size : (s n : ℕ) → total (pair hour s) n ≤ 10000
  pairs_size s n = omega (arith, pairs_within hour s n, holding_size s)

  pub deployments_size : (s n : ℕ) → total (hour.deployed s) n ≤ 10000
  deployments_size s n = omega (arith, total_le (hour.deployed s) (pair hour s) n (λ b _ _. sound.ordered.deployments s b), pairs_size s n)

  pub misses_size : (s n : ℕ) → total (hour.missed s) n ≤ 10000
  misses_size s n = omega (arith, total_le (hour.missed s) (hour.deployed s) n (λ b _ _. sound.ordered.misses s b), deployments_size s n)

  pub declines_size : (s n : ℕ) → total (declined hour s) n ≤ 10000
  declines_size s n = omega (arith, total_le (declined hour s) (pair hour s) n (λ b _ _. omega arith), pairs_size s n)
