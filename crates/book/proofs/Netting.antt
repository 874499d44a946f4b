-- What an account gets by a statement, block by block. Assumes nothing.
use Rattle.std.proofs.Common.{◌≡◌, ℕ, zero, suc, ℤ, ◌+ℤ◌, ◌-ℤ◌, arith}
use Rattle.std.proofs.lemmas.Int.{ints}
use Rattle.tariff.specs.declared.blocks.Block.TheVariants.{Heavy, Light}
use Rattle.tally.specs.Numbered.{total_z}
use Rattle.tally.specs.Statements.{Statement, Payment, buyer_pays, seller_pays, paid_to, taken_from, net}
use Rattle.tally.proofs.Numbering.{total_z_none, total_z_more, total_z_add}
use Rattle.book.specs.Posting.{party_gets}

total_z_less : (f g : ℕ → ℤ) (n : ℕ) → total_z (λ k. f k -ℤ g k) n ≡ total_z f n -ℤ total_z g n
total_z_less f g zero =
    let a = total_z_none f in
    let b = total_z_none g in
    let c = total_z_none (λ k. f k -ℤ g k) in
    omega (arith, ints, a, b, c)
total_z_less f g (suc n) =
    let a = total_z_more f n in
    let b = total_z_more g n in
    let c = total_z_more (λ k. f k -ℤ g k) n in
    let d = total_z_less f g n in
    omega (arith, ints, a, b, c, d)

module _ (parties : ℕ) (statement : Statement) where
  pub pool_net : net parties statement 0
      ≡ total_z (λ seller. total_z (λ buyer. (statement Heavy seller buyer).to_pool) parties) parties
      +ℤ total_z (λ seller. total_z (λ buyer. (statement Light seller buyer).to_pool) parties) parties
  unfolding paid_to taken_from
  pool_net =
      let a = total_z_add (λ seller. total_z (λ buyer. (statement Heavy seller buyer).to_pool) parties)
      (λ seller. total_z (λ buyer. (statement Light seller buyer).to_pool) parties) parties in
      omega (arith, ints, a)

  page_net : (page : ℕ → ℕ → Payment) (party : ℕ) → party_gets parties page party
      ≡ (total_z (λ buyer. buyer_pays (page party buyer)) parties -ℤ total_z (λ buyer. seller_pays (page party buyer)) parties)
      +ℤ (total_z (λ seller. (page seller party).to_buyer) parties -ℤ total_z (λ seller. buyer_pays (page seller party)) parties)
  page_net page party =
      let a = total_z_less (λ buyer. buyer_pays (page party buyer)) (λ buyer. seller_pays (page party buyer)) parties in
      let b = total_z_less (λ seller. (page seller party).to_buyer) (λ seller. buyer_pays (page seller party)) parties in
      omega (arith, ints, a, b)

  pub party_net : (k : ℕ) → net parties statement (suc k)
      ≡ party_gets parties (statement Heavy) (suc k) +ℤ party_gets parties (statement Light) (suc k)
  unfolding paid_to taken_from
  party_net k =
      let a = page_net (statement Heavy) (suc k) in
      let b = page_net (statement Light) (suc k) in
      omega (arith, ints, a, b)
