-- The payments of a row, of which the first are taken. Assumes nothing.
use Rattle.std.proofs.Common.{◌≡◌, ℕ, suc, ◌<◌, ◌≤◌, List, [], length, get_or, take, sym, ap, ◌∙◌, subst, arith}
use Rattle.std.proofs.lemmas.List.{get_or-map, get_or-take, length-take-le}
use Rattle.tally.specs.AccountLaws.{no_payment}
use Rattle.tally.specs.SizeLaws.{SmallPayment}
use Rattle.book.specs.Payments.{payment_of, payments_in}
use Rattle.book.specs.Posting.{SmallRow, SmallPage, entries_in}
use Rattle.book.specs.Records.{at}
use Rattle.book.specs.declared.payment.Payment.{Payment as PageEntry}

pub taken_below : {A : Type 0} (row : List A) (n i : ℕ) → n ≤ length row → i < length (take n row) → i < n
taken_below row n i few l = omega (arith, length-take-le n row few)

module _ (row : List PageEntry) (n i : ℕ) (d : PageEntry) (few : n ≤ length row) (l : i < length (take n row)) where
  pub taken_entry : payment_of (get_or (take n row) i d) ≡ entries_in row (suc i)
  taken_entry =
      let below : i < n = taken_below row n i few l in
      ap payment_of (get_or-take n row i d below) ∙ sym (get_or-map payment_of row i d no_payment (omega arith))

  pub taken_small : SmallRow n (entries_in row) → SmallPayment (payment_of (get_or (take n row) i d))
  taken_small small = subst SmallPayment (sym taken_entry) (small (suc i) (omega arith) (taken_below row n i few l))

-- the same of the rows of a table
module _ (rows : List (List PageEntry)) (n i : ℕ) (few : n ≤ length rows) (l : i < length (take n rows)) where
  pub taken_row : get_or (take n rows) i [] ≡ at [] rows (suc i)
  taken_row = get_or-take n rows i [] (taken_below rows n i few l)

  pub taken_entries : SmallPage n (payments_in rows) → SmallRow n (entries_in (get_or (take n rows) i []))
  taken_entries small =
      subst (λ row. SmallRow n (entries_in row)) (sym taken_row) (small (suc i) (omega arith) (taken_below rows n i few l))
