-- Pairs of stretches laid end to end: they fill each stretch, and none is longer than its own. Assumes nothing.
use Rattle.std.proofs.Common.{◌≡◌, ℕ, zero, suc, ◌<◌, ◌≤◌, ◌∙◌, arith}
use Rattle.tally.specs.Hours.{Hour}
use Rattle.tally.specs.Numbered.{total, before}
use Rattle.tally.specs.Pairs.{overlap, pair}
use Rattle.tally.proofs.Numbering.{total_none, total_more, total_front, total_same}

-- the overlaps of one stretch with stretches laid end to end come to its overlap with all of them
pub overlaps : (f : ℕ → ℕ) (a c n : ℕ) → a ≤ c → total (λ k. overlap a c (before f k) (total f k)) n ≡ overlap a c 0 (total f n)
overlaps f a c zero h = omega (arith, total_none f, total_none (λ k. overlap a c (before f k) (total f k)))
overlaps f a c (suc n) h = omega (arith, total_more f n, total_more (λ k. overlap a c (before f k) (total f k)) n, overlaps f a c n h)

-- a stretch that lies within them all is filled
filled : (f g : ℕ → ℕ) (p n : ℕ) → 0 < p → total g p ≤ total f n
    → total (λ k. overlap (before g p) (total g p) (before f k) (total f k)) n ≡ g p
filled f g zero n h l = absurd (omega arith)
filled f g (suc p) n h l =
    overlaps f (total g p) (total g (suc p)) n (omega (arith, total_more g p)) ∙ omega (arith, total_more g p)

overlap_swap : (a b c d : ℕ) → overlap a b c d ≡ overlap c d a b
overlap_swap a b c d = omega arith

module _ (hour : Hour) (parties : ℕ) (met : total hour.holdings parties ≡ total hour.requests parties) where
  -- every seller's pairs add up to its holding
  pub sellers_filled : (seller : ℕ) → 0 < seller → seller ≤ parties → total (pair hour seller) parties ≡ hour.holdings seller
  unfolding pair
  sellers_filled seller h l =
      filled hour.requests hour.holdings seller parties h (omega (arith, met, total_front hour.holdings seller parties l))

  -- and every buyer's to its request
  pub buyers_filled : (buyer : ℕ) → 0 < buyer → buyer ≤ parties → total (λ seller. pair hour seller buyer) parties ≡ hour.requests buyer
  unfolding pair
  buyers_filled buyer h l =
      total_same _ (λ s. overlap (before hour.requests buyer) (total hour.requests buyer) (before hour.holdings s)
      (total hour.holdings s)) parties
      (λ s _ _. overlap_swap (before hour.holdings s) (total hour.holdings s) (before hour.requests buyer) (total hour.requests buyer))
      ∙ filled hour.holdings hour.requests buyer parties h (omega (arith, met, total_front hour.requests buyer parties l))

-- a pair is a part of the seller's holding
pub pair_within : (hour : Hour) (seller buyer : ℕ) → pair hour seller buyer ≤ hour.holdings seller
unfolding pair
pair_within hour zero buyer = omega (arith, total_none hour.holdings)
pair_within hour (suc s) buyer = omega (arith, total_more hour.holdings s)

-- and of the buyer's request
pub pair_within_request : (hour : Hour) (seller buyer : ℕ) → pair hour seller buyer ≤ hour.requests buyer
unfolding pair
pair_within_request hour seller zero = omega (arith, total_none hour.requests)
pair_within_request hour seller (suc b) = omega (arith, total_more hour.requests b)
