-- The sizes of what an hour's requests are met from. Assumes nothing.
use Rattle.std.proofs.Common.{◌≡◌, ℕ, ◌≤◌, Bool, true, false, cond, ltb, ap, arith}
use Rattle.tally.specs.Allotment.{offers_suffice, requested, held_whole}
use Rattle.tally.specs.Hours.{Hour}
use Rattle.tally.specs.States.{hour_at}
use Rattle.tally.proofs.Numbering.{total_bound}
use Rattle.book.specs.Books.{state_of}
use Rattle.book.specs.HourEntries.{SmallHour}
use Rattle.book.specs.declared.book.Book.{Book}
use Rattle.book.proofs.Facts.{sound_of}

-- the figures of an hour to which calls led
pub small_of : (book : Book) (number : ℕ) → SmallHour (hour_at (state_of book) number)
small_of book number party =
    ((((sound_of book).hours number).offers party).0, (((sound_of book).hours number).requests party).0)

module _ (n : ℕ) (hour : Hour) (few : n ≤ 12) (small : SmallHour hour) where
  pub requested_small : requested n hour ≤ 60000
  requested_small = omega (arith, total_bound hour.requests 5000 n (λ party _ _. (small party).1))

  -- what is held whole
  pub whole_small : (whole : ℕ → ℕ) → whole ≡ held_whole n hour → (party : ℕ) → whole party ≤ 5000
  whole_small whole e party =
      let held = within (offers_suffice n hour) (within (ltb 0 (hour.requests party)) (small party).0) in
      omega (arith, held, ap (λ (f : ℕ → ℕ). f party) e)
    where
      within : (b : Bool) {x : ℕ} → x ≤ 5000 → cond b 0 x ≤ 5000
      within true l = omega arith
      within false l = l
