use Rattle.std.proofs.Common.{◌≡◌, ◌*◌, ◌≤◌, ◌+ℤ◌, nat_abs}
use Rattle.tally.specs.Numbered.{total_z}
use Rattle.tally.specs.Settlement.{holdback, energy}
use Rattle.book.specs.Books.{state_of}
use Rattle.book.specs.PricedDays.{prices_in}
use Rattle.book.proofs.book.Book.settlement.Given as goal

abbrev pub invariant-loop-place : goal.invariant-loop-place
invariant-loop-place l =
    let S = state_of l.self in
    let P = prices_in l.prices in
    let seller = l.seller in
    record {
      sum : l.total ≡ total_z (λ buyer. holdback S P l.hours.block seller buyer +ℤ energy S P l.hours.block seller buyer) l.place;
      size : nat_abs l.total ≤ l.place * 192000000000000;
    }
