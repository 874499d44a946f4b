-- The two pages of a statement, in the words of the tally. Assumes nothing.
use Rattle.std.specs.Prelude.{ℕ, pos, List}
use Rattle.pages.specs.Pages.{page_at}
use Rattle.tariff.specs.declared.blocks.Block.TheVariants.{Heavy, Light}
use Rattle.tally.specs.Statements.{Statement, Payment}
use Rattle.book.specs.Payments.{payment_of}
use Rattle.book.specs.declared.payment.Payment.{Payment as PageEntry}

-- an entry by which nothing is paid
abbrev pub nothing : PageEntry
nothing = record { holdback = pos 0; energy = pos 0; make_whole = pos 0; to_pool = pos 0; to_buyer = pos 0 }

-- what a page has for a seller and a buyer; another number has no payment
abbrev pub paid_on : List PageEntry → (seller buyer : ℕ) → Payment
paid_on entries seller buyer = payment_of (page_at nothing entries seller buyer)

abbrev pub statement_on : (heavy light : List PageEntry) → Statement
statement_on heavy light Heavy = paid_on heavy
statement_on heavy light Light = paid_on light
