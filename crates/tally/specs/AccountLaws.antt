-- What every list of calls keeps of the accounts. Assumes nothing.
use Rattle.std.specs.Prelude.{◌≡◌, ℕ, ◌<◌, ◌⊎◌, List, ℤ, pos, ◌+ℤ◌}
use Rattle.tariff.specs.declared.blocks.Block.{Block}
use Rattle.tally.specs.Laws.{Always, AtEachClose}
use Rattle.tally.specs.Numbered.{total_z}
use Rattle.tally.specs.Statements.{Statement, Payment, due}

-- What is due to all accounts, the pool's with them, adds up to 0: every payment enters two of them.
abbrev pub all_accounts : ℕ → List Statement → ℤ
all_accounts parties statements = due parties statements 0 +ℤ total_z (due parties statements) parties

abbrev pub AccountsBalance : Type 0
AccountsBalance = Always (λ tally. all_accounts tally.state.set_up.parties tally.statements ≡ pos 0)

-- A number above the last party's has no payment on any statement, where sellers are numbered from 1.
abbrev pub no_payment : Payment
no_payment = record { holdback = pos 0; energy = pos 0; make_whole = pos 0; to_pool = pos 0; to_buyer = pos 0 }

abbrev pub OnlyPartiesPay : Type 0
OnlyPartiesPay =
    AtEachClose (λ state prices statement. (block : Block) (seller buyer : ℕ) → 0 < seller
    → (state.set_up.parties < seller) ⊎ (state.set_up.parties < buyer) → statement block seller buyer ≡ no_payment)
