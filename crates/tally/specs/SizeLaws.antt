-- How large figures get, whatever calls were made, so that a program can hold them. Assumes nothing.
use Rattle.std.specs.Prelude.{ℕ, ◌≤◌, ℤ, unsigned_abs}
use Rattle.tariff.specs.Blocks.{last_day}
use Rattle.tariff.specs.declared.blocks.Block.{Block}
use Rattle.tally.specs.Charges.{ceiling}
use Rattle.tally.specs.Laws.{Always, AtEachClose}
use Rattle.tally.specs.States.{State, IsParty}
use Rattle.tally.specs.Statements.{Payment, due}

-- No figure of a statement passes 2 × 10^13 cents.
abbrev pub Small : ℤ → Type 0
Small figure = unsigned_abs figure ≤ 20000000000000

pub record SmallPayment (payment : Payment) : Type 0 where
  pub holdback : Small payment.holdback
  pub energy : Small payment.energy
  pub make_whole : Small payment.make_whole
  pub to_pool : Small payment.to_pool
  pub to_buyer : Small payment.to_buyer

abbrev pub PaymentsFit : Type 0
PaymentsFit =
    AtEachClose (λ state prices statement. (block : Block) (seller buyer : ℕ) → IsParty state seller → IsParty state buyer
    → SmallPayment (statement block seller buyer))

-- Nothing that is due to an account passes 4 × 10^18 cents, which is below 2^63.
abbrev pub DuesFit : Type 0
DuesFit =
    Always (λ tally. (account : ℕ) → account ≤ tally.state.set_up.parties
    → unsigned_abs (due tally.state.set_up.parties tally.statements account) ≤ 4000000000000000000)

-- A year has at most 4,000 failure days of a seller, a month's miss is at most 10,000 MWh, and the ceiling, today counted,
-- at most 1.2 × 10^13 cents.
pub record SmallYear (state : State) (seller : ℕ) : Type 0 where
  pub failure_days : state.year.failure_days seller ≤ last_day
  pub misses : (month : ℕ) → state.year.misses seller month ≤ 10000
  pub ceiling : ceiling state seller ≤ 12000000000000

abbrev pub YearsFit : Type 0
YearsFit = Always (λ tally. (seller : ℕ) → SmallYear tally.state seller)
