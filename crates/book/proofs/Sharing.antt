-- What a book hands to a rule for make-whole. Assumes nothing.
use Rattle.std.proofs.Common.{◌≡◌, ℕ, suc, ◌<◌, cond, eqb, ap, arith}
use Rattle.tariff.specs.Answers.{granted}
use Rattle.tariff.specs.declared.blocks.Block.{Block}
use Rattle.tally.specs.MakeWhole.{make_whole_claims, sharing_answer}
use Rattle.tally.specs.RuleLaws.{Handed}
use Rattle.tally.specs.Settlement.{make_whole}
use Rattle.tally.proofs.Divisible.{make_wholes_at}
use Rattle.tally.proofs.Divisions.{count_answer, only_counted}
use Rattle.book.specs.Books.{state_of}
use Rattle.book.specs.PricedDays.{prices_in}
use Rattle.book.specs.declared.book.Book.{Book}
use Rattle.book.specs.declared.priced_day.PricedDay.{PricedDay}
use Rattle.book.proofs.DayPriced.{small_prices}
use Rattle.book.proofs.Facts.{sound_of}

module _ (book : Book) (prices : PricedDay) (block : Block) (place : ℕ) (party : place < book.pool.parties) where
  pub handed_of : Handed (make_whole (state_of book) (prices_in prices) block (suc place))
      (make_whole_claims (state_of book) block (suc place)) book.pool.parties
  handed_of =
      make_wholes_at (state_of book) (sound_of book) (prices_in prices) (small_prices prices) block (suc place) (omega arith, omega arith)

  -- so only the claims are counted, where there is something to divide
  pub sharing_counted : (most : ℕ) → sharing_answer (state_of book) (prices_in prices) most block (suc place)
      ≡ cond (eqb (make_whole (state_of book) (prices_in prices) block (suc place)) 0) granted
      (count_answer most (make_whole_claims (state_of book) block (suc place)))
  sharing_counted most =
      ap (λ a. cond (eqb (make_whole (state_of book) (prices_in prices) block (suc place)) 0) granted a)
      (only_counted _ (make_whole_claims (state_of book) block (suc place)) book.pool.parties most handed_of)
