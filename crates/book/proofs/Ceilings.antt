-- The ceiling of a book's seller from its monthly misses: what it is made of, and the sizes. Assumes nothing.
use Rattle.std.proofs.Common.{◌≡◌, ℕ, zero, suc, ◌+◌, ◌-◌, ◌*◌, ◌<◌, ◌≤◌, max, refl, sym, ◌∙◌, ap₂, arith}
use Rattle.tally.specs.Charges.{ceiling_of}
use Rattle.tally.specs.Numbered.{total, greatest}
use Rattle.tally.specs.States.{SetUp}
use Rattle.tally.proofs.Numbering.{total_bound, total_same, greatest_none, greatest_more, greatest_bound}
use Rattle.tally.proofs.Products.{product_le}
use Rattle.tally.proofs.SetUps.{full_size, step_within_full}
use Rattle.tally.proofs.YearSizes.{ceiling_size}
use Rattle.book.proofs.Facts.{sound_of}
use Rattle.book.specs.Records.{set_up_in}
use Rattle.book.specs.declared.book.Book.{Book}

module _ (book : Book) (misses : ℕ → ℕ) (small : (month : ℕ) → misses month ≤ 10000) where
  -- what the months so far come to
  pub sum_small : (n : ℕ) → n ≤ 12 → total misses n ≤ 120000
  sum_small n l = omega (arith, total_bound misses 10000 n (λ k _ _. small k))

  pub largest_small : (n : ℕ) → greatest misses n ≤ 10000
  largest_small n = greatest_bound misses 10000 n (λ k _ _. small k)

  abbrev set_up : SetUp
  set_up = set_up_in book.pool

  pub full_part_small : set_up.full * greatest misses 12 ≤ 1000000000000
  full_part_small =
      product_le set_up.full (greatest misses 12) 100000000 10000 1000000000000
      (full_size set_up (sound_of book).proper) (largest_small 12) (omega arith)

  pub step_part_small : set_up.step * (total misses 12 - greatest misses 12) ≤ 12000000000000
  step_part_small =
      product_le set_up.step (total misses 12 - greatest misses 12) 100000000 120000 12000000000000
      (omega (arith, full_size set_up (sound_of book).proper, step_within_full set_up (sound_of book).proper))
      (omega (arith, sum_small 12 (omega arith))) (omega arith)

  pub made_of : (largest all : ℕ) → largest ≡ greatest misses 12 → all ≡ total misses 12
      → set_up.full * largest + set_up.step * (all - largest) ≡ ceiling_of set_up misses
  unfolding ceiling_of
  made_of largest all g t = rw (g, t) refl

  pub within : ceiling_of set_up misses ≤ 12000000000000
  within = ceiling_size set_up (sound_of book).proper misses small

greatest_same : (f g : ℕ → ℕ) (n : ℕ) → ((k : ℕ) → 0 < k → k ≤ n → f k ≡ g k) → greatest f n ≡ greatest g n
greatest_same f g zero h = greatest_none f ∙ sym (greatest_none g)
greatest_same f g (suc n) h =
    greatest_more f n
    ∙ ap₂ max (greatest_same f g n (λ k l m. h k l (omega arith))) (h (suc n) (omega arith) (omega arith))
    ∙ sym (greatest_more g n)

-- twelve months make a ceiling
pub ceiling_same : (set_up : SetUp) (f g : ℕ → ℕ) → ((k : ℕ) → 0 < k → k ≤ 12 → f k ≡ g k)
    → ceiling_of set_up f ≡ ceiling_of set_up g
unfolding ceiling_of
ceiling_same set_up f g h = rw (greatest_same f g 12 h, total_same f g 12 h) refl
