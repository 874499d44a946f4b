-- Payments in tables with a row for each seller, in the words of the tally. Assumes nothing.
use Rattle.std.specs.Prelude.{ℕ, List, [], map}
use Rattle.tariff.specs.declared.blocks.Block.TheVariants.{Heavy, Light}
use Rattle.tally.specs.AccountLaws.{no_payment}
use Rattle.tally.specs.Statements.{Statement, Payment}
use Rattle.book.specs.Records.{at}
use Rattle.book.specs.declared.payment.Payment.{Payment as PageEntry}

-- all five figures
abbrev pub payment_of : PageEntry → Payment
payment_of entry = record {
  holdback = entry.holdback;
  energy = entry.energy;
  make_whole = entry.make_whole;
  to_pool = entry.to_pool;
  to_buyer = entry.to_buyer;
}

-- a table has a row for each seller, and in it an entry for each buyer; another number has no payment
abbrev pub payments_in : List (List PageEntry) → (seller buyer : ℕ) → Payment
payments_in rows seller buyer = at no_payment (map payment_of (at [] rows seller)) buyer

-- one table for each block
abbrev pub statement_in : (heavy light : List (List PageEntry)) → Statement
statement_in heavy light Heavy = payments_in heavy
statement_in heavy light Light = payments_in light
