-- What an hour has that is not allotted: nothing. Assumes nothing.
use Rattle.std.proofs.Common.{◌≡◌, ℕ, Bool, true, false, cond, ℤ, pos, ◌*ℤ◌, refl, arith}
use Rattle.std.proofs.lemmas.Int.{ints}
use Rattle.tally.specs.Charges.{missed_at}
use Rattle.tally.specs.Pairs.{pair, delivered}
use Rattle.tally.specs.Settlement.{holds_at}
use Rattle.tally.specs.States.{hour_at}
use Rattle.tally.proofs.Numbering.{total_zero}
use Rattle.tally.proofs.Overlaps.{pair_within}
use Rattle.book.specs.Books.{state_of}
use Rattle.book.specs.declared.book.Book.{Book}
use Rattle.book.proofs.Facts.{sound_of}
use Rattle.book.proofs.HourFigures.{deployment_within, miss_within}

pub nothing_costs : (n : ℕ) (price : ℤ) → n ≡ 0 → pos n *ℤ price ≡ pos 0
nothing_costs n price e = rw e (omega (arith, ints))

pub either_nothing : (b : Bool) (amount : ℤ) → amount ≡ pos 0 → cond b (pos 0) amount ≡ pos 0
either_nothing true amount e = refl
either_nothing false amount e = e

module _ (book : Book) (hour : ℕ) (isnt : (hour_at (state_of book) hour).allotted ≡ false) where
  pub unheld : (seller : ℕ) → (hour_at (state_of book) hour).holdings seller ≡ 0
  unheld seller = ((sound_of book).hours hour).unheld isnt seller

  pub unheld_pair : (seller buyer : ℕ) → pair (hour_at (state_of book) hour) seller buyer ≡ 0
  unheld_pair seller buyer = omega (arith, pair_within (hour_at (state_of book) hour) seller buyer, unheld seller)

  pub undelivered : (seller buyer : ℕ) → delivered (hour_at (state_of book) hour) seller buyer ≡ 0
  undelivered seller buyer = omega (arith, unheld_pair seller buyer, deployment_within book hour seller buyer)

  pub uncredited : (seller : ℕ) (amount : ℤ) → cond (holds_at (state_of book) seller hour) amount (pos 0) ≡ pos 0
  uncredited seller amount = rw (unheld seller) refl

  pub unmissed : (seller : ℕ) → missed_at (state_of book) seller hour ≡ 0
  unfolding missed_at
  unmissed seller =
      total_zero ((hour_at (state_of book) hour).missed seller) book.pool.parties
      (λ buyer first last.
      let within = deployment_within book hour seller buyer in
      omega (arith, unheld_pair seller buyer, within, miss_within book hour seller buyer))
