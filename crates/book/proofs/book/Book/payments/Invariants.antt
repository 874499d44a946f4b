use Rattle.std.proofs.Common.{◌≡◌, ℕ, ◌<◌, length, slice_index, slice_index_or}
use Rattle.tally.specs.AccountLaws.{no_payment}
use Rattle.book.specs.Books.{state_of}
use Rattle.book.specs.Pages.{nothing}
use Rattle.book.specs.Payments.{payment_of}
use Rattle.book.specs.PricedDays.{prices_in}
use Rattle.book.specs.PaidTables.{paid}
use Rattle.std.proofs.Common.{suc, ◌≤◌}
use Rattle.book.proofs.book.Book.payments.Given as goal

abbrev pub invariant-loop-place : goal.invariant-loop-place
invariant-loop-place l = record {
  long : length l.row ≡ 12;
  done : (buyer : ℕ) → buyer < l.place → payment_of (slice_index_or l.row buyer nothing)
      ≡ paid (state_of l.self) (prices_in l.prices) l.hours.block l.seller (suc buyer) (slice_index l.shares buyer);
  rest : (buyer : ℕ) → l.place ≤ buyer → payment_of (slice_index_or l.row buyer nothing) ≡ no_payment;
}
