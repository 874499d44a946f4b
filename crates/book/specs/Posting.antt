-- What payments come to for those between whom they pass. Assumes nothing.
use Rattle.std.specs.Prelude.{ℕ, ◌<◌, ◌≤◌, List, ℤ, ◌+ℤ◌, ◌-ℤ◌, map}
use Rattle.tariff.specs.declared.blocks.Block.{Block}
use Rattle.tally.specs.AccountLaws.{no_payment}
use Rattle.tally.specs.Numbered.{total_z}
use Rattle.tally.specs.SizeLaws.{SmallPayment}
use Rattle.tally.specs.Statements.{Payment, Statement, buyer_pays, seller_pays}
use Rattle.book.specs.Payments.{payment_of}
use Rattle.book.specs.Records.{at}
use Rattle.book.specs.declared.payment.Payment.{Payment as PageEntry}

-- what the seller gets by a payment, and the buyer, each less what it pays
abbrev pub seller_gets : Payment → ℤ
seller_gets p = buyer_pays p -ℤ seller_pays p

abbrev pub buyer_gets : Payment → ℤ
buyer_gets p = p.to_buyer -ℤ buyer_pays p

-- what a party gets by the payments of one block, as a seller and as a buyer
abbrev pub party_gets : ℕ → (ℕ → ℕ → Payment) → ℕ → ℤ
party_gets parties page party =
    total_z (λ buyer. seller_gets (page party buyer)) parties
    +ℤ total_z (λ seller. buyer_gets (page seller party)) parties

-- a row's payments by number
abbrev pub entries_in : List PageEntry → ℕ → Payment
entries_in row = at no_payment (map payment_of row)

-- the payments of the parties are small
abbrev pub SmallRow : ℕ → (ℕ → Payment) → Type 0
SmallRow parties entries = (number : ℕ) → 0 < number → number ≤ parties → SmallPayment (entries number)

abbrev pub SmallPage : ℕ → (ℕ → ℕ → Payment) → Type 0
SmallPage parties page = (seller : ℕ) → 0 < seller → seller ≤ parties → SmallRow parties (page seller)

abbrev pub SmallStatement : ℕ → Statement → Type 0
SmallStatement parties statement = (block : Block) → SmallPage parties (statement block)
