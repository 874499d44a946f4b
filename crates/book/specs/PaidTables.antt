-- The payments of a day in tables, from shares of make-whole. Assumes nothing.
use Rattle.std.specs.Prelude.{◌≡◌, ℕ, suc, ◌<◌, if◌then◌else◌, ◌&&◌, List, [], pos, nat_lt}
use Rattle.tariff.specs.declared.blocks.Block.{Block}
use Rattle.tally.specs.AccountLaws.{no_payment}
use Rattle.tally.specs.DayPrices.{DayPrices}
use Rattle.tally.specs.States.{State}
use Rattle.tally.specs.Statements.{Payment, statement_of}
use Rattle.book.specs.Payments.{payments_in}
use Rattle.book.specs.declared.payment.Payment.{Payment as PageEntry}

module _ (state : State) (prices : DayPrices) (block : Block) where
  -- what the statement has for a seller and a buyer, with that share of make-whole, whatever the rule means
  abbrev pub paid : (seller buyer share : ℕ) → Payment
  paid seller buyer share =
      record (statement_of state prices (λ turn total claims. []) block seller buyer) { make_whole = pos share }

  -- the same of a seller and a buyer by place, of whom one may be no party
  abbrev pub paid_at : (seller buyer share : ℕ) → Payment
  paid_at seller buyer share =
      if nat_lt seller state.set_up.parties && nat_lt buyer state.set_up.parties
      then paid (suc seller) (suc buyer) share else no_payment

  -- a table of all of these, with shares by seller and buyer
  abbrev pub PaidIn : (shares : ℕ → ℕ → ℕ) → List (List PageEntry) → Type 0
  PaidIn shares rows =
      (seller buyer : ℕ) → seller < 12 → buyer < 12
      → payments_in rows (suc seller) (suc buyer) ≡ paid_at seller buyer (shares (suc seller) (suc buyer))
