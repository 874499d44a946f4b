-- Pairs from running starts: what a stretch has in common with stretches laid end to end. Assumes nothing.
use Rattle.std.proofs.Common.{◌≡◌, ℕ, zero, suc, ◌+◌, ◌<◌, ◌≤◌, List, [], length, get_or, set, sym, ◌∙◌, ap, ⊎_elim, length-set, arith}
use Rattle.std.proofs.lemmas.Bool.{cases_lt}
use Rattle.std.proofs.lemmas.List.{get_or_past}
use Rattle.tally.specs.Numbered.{total, before}
use Rattle.tally.specs.Pairs.{overlap}
use Rattle.tally.proofs.Numbering.{total_none, total_more}
use Rattle.book.specs.Records.{at, by_seller}
use Rattle.book.proofs.Blanks.{at_same}
use Rattle.book.proofs.Filling.{Filled, filled_all}
use Rattle.book.proofs.RowWrites.{place_next}

-- what each seller's stretch has in common with one from c to d
abbrev pub stretch : (ℕ → ℕ) → (c d seller : ℕ) → ℕ
stretch holdings c d seller = overlap (before holdings seller) (total holdings seller) c d

-- an empty stretch has nothing in common with any
empty_overlap : (a c d : ℕ) → overlap a a c d ≡ 0
empty_overlap a c d = omega arith

overlap_empty : (a b c : ℕ) → overlap a b c c ≡ 0
overlap_empty a b c = omega arith

-- a number without a place holds nothing
module _ (list : List ℕ) (long : length list ≡ 12) where
  pub total_past : (k : ℕ) → 12 ≤ k → total (at 0 list) (suc k) ≡ total (at 0 list) k
  total_past k l = omega (arith, total_more (at 0 list) k, get_or_past list k 0 (omega arith))

  pub stretch_first : (c d : ℕ) → stretch (at 0 list) c d 0 ≡ 0
  stretch_first c d = rw total_none (empty_overlap 0 c d)

  pub stretch_past : (c d k : ℕ) → 12 ≤ k → stretch (at 0 list) c d (suc k) ≡ 0
  stretch_past c d k l = rw (total_past k l) (empty_overlap (total (at 0 list) k) c d)

  -- so a row that has each seller's has all
  pub row_all : (row : List ℕ) (c d count : ℕ) → 12 ≤ count → Filled 0 row (stretch (at 0 list) c d) count
      → at 0 row ≡ stretch (at 0 list) c d
  row_all row c d count m filled = filled_all 0 row (stretch (at 0 list) c d) count m filled (stretch_first c d) (stretch_past c d)

-- the first rows of a table of pairs
pub record Rows (rows : List (List ℕ)) (holdings requests : ℕ → ℕ) (count : ℕ) : Type 0 where
  pub long : length rows ≡ 12
  pub here : (k : ℕ) → k < count → at 0 (get_or rows k []) ≡ stretch holdings (before requests (suc k)) (total requests (suc k))

pub rows_more : (rows : List (List ℕ)) (holdings requests : ℕ → ℕ) (i : ℕ) (row : List ℕ) → i < 12 → Rows rows holdings requests i
    → at 0 row ≡ stretch holdings (before requests (suc i)) (total requests (suc i)) → Rows (set rows i row) holdings requests (i + 1)
rows_more rows holdings requests i row l done here =
    let in_table : i < length rows = omega (arith, done.long) in
    record {
      long = length-set rows i row ∙ done.long;
      here =
          place_next [] rows i row
          (λ k (r : List ℕ). at 0 r ≡ stretch holdings (before requests (suc k)) (total requests (suc k))) in_table here done.here;
    }

-- all of them
pub rows_all : (rows : List (List ℕ)) (holdings : ℕ → ℕ) (requests : List ℕ) (count : ℕ) → length requests ≡ 12 → 12 ≤ count
    → Rows rows holdings (at 0 requests) count → (seller buyer : ℕ)
    → by_seller 0 rows seller buyer ≡ stretch holdings (before (at 0 requests) buyer) (total (at 0 requests) buyer) seller
rows_all rows holdings requests count long m done seller zero =
    at_same 0 0 seller ∙ sym (rw total_none (overlap_empty (before holdings seller) (total holdings seller) 0))
rows_all rows holdings requests count long m done seller (suc k) =
    ⊎_elim
    (λ (l : k < 12). ap (λ (f : ℕ → ℕ). f seller) (done.here k (omega arith)))
    (λ (l : 12 ≤ k).
    ap (λ row. at 0 row seller) (get_or_past rows k [] (omega (arith, done.long))) ∙ at_same 0 0 seller
    ∙ sym (rw (total_past requests long k l) (overlap_empty (before holdings seller) (total holdings seller) (total (at 0 requests) k))))
    (cases_lt k 12)
