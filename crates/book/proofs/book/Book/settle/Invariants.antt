use Rattle.std.proofs.Common.{◌≡◌, ℕ, ◌<◌, ◌≤◌, length}
use Rattle.tariff.specs.declared.blocks.Block.TheVariants.{Heavy, Light}
use Rattle.tally.specs.Years.{day_charges}
use Rattle.book.specs.Books.{state_of}
use Rattle.book.specs.PricedDays.{prices_in}
use Rattle.book.specs.Records.{at}
use Rattle.book.specs.Sharing.{shares_in}
use Rattle.book.proofs.Settling.{Rows}
use Rattle.book.proofs.book.Book.settle.Given as goal

abbrev pub invariant-loop-place : goal.invariant-loop-place
invariant-loop-place l = record {
  heavy : Rows (state_of l.self) (prices_in l.prices) Heavy (shares_in l.shares.heavy l.shares.light Heavy) l.place l.settled.heavy;
  light : Rows (state_of l.self) (prices_in l.prices) Light (shares_in l.shares.heavy l.shares.light Light) l.place l.settled.light;
  charges : (seller : ℕ) → 0 < seller → seller ≤ l.place
      → at 0 l.settled.charges seller ≡ day_charges (state_of l.self) (prices_in l.prices) seller;
  small : (seller : ℕ) → at 0 l.settled.charges seller ≤ 1152000000000000;
  long : length l.settled.charges ≡ 12;
}
