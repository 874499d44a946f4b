-- What a seller missed: the sizes, and sums over buyers and hours. Assumes nothing.
use Rattle.std.proofs.Common.{◌≡◌, ◌≢◌, ℕ, zero, suc, ◌*◌, ◌<◌, ◌≤◌, max, Bool, true, false, cond, eqb, ltb, List, [], length, ⊎_elim, refl}
use Rattle.std.proofs.Common.{◌∙◌, arith}
use Rattle.std.proofs.Math.Path.{fun_ext}
use Rattle.std.proofs.lemmas.List.{get_or_past}
use Rattle.std.proofs.lemmas.Bool.{cases_lt, ne_eqb}
use Rattle.std.proofs.lemmas.Bool.Decides.{nat_tests}
use Rattle.tariff.specs.Blocks.{hours_of_day}
use Rattle.tally.specs.Charges.{missed_at, is_failure_day}
use Rattle.tally.specs.Numbered.{total, greatest}
use Rattle.tally.specs.States.{State}
use Rattle.tally.proofs.Numbering.{total_bound, le_greatest, greatest_le_total}
use Rattle.book.proofs.Facts.{sound_of}
use Rattle.book.specs.Records.{at}
use Rattle.book.specs.declared.book.Book.{Book}

-- figures come to more than 0 where the greatest of them is above 0
pub any_greatest : (f : ℕ → ℕ) (n : ℕ) → ltb 0 (greatest f n) ≡ ltb 0 (total f n)
any_greatest f n =
    by (greatest f n) (total f n) (greatest_le_total f n)
    (total_bound f (greatest f n) n (λ k l m. le_greatest f k n l m))
  where
    by : (g t : ℕ) → g ≤ t → t ≤ n * g → ltb 0 g ≡ ltb 0 t
    by zero t h m = let e : t ≡ 0 = omega arith in rw e refl
    by (suc g) t h m = grind (arith, nat_tests)

pub failure_day_by : (state : State) (seller : ℕ)
    → ltb 0 (greatest (missed_at state seller) hours_of_day) ≡ is_failure_day state seller
unfolding is_failure_day
failure_day_by state seller = any_greatest (missed_at state seller) hours_of_day

pub failure_days_small : (book : Book) (seller : ℕ) → at 0 book.year.failure_days seller ≤ 4000
failure_days_small book seller = omega (arith, (sound_of book).failures seller, (sound_of book).number)

-- no month's miss is large, today's counted
pub counted_small : (row : List ℕ) (old : ℕ → ℕ) (month miss : ℕ) → length row ≡ 12 → ((k : ℕ) → old k ≤ 10000)
    → miss ≤ 10000
    → ((k : ℕ) → 0 < k → k ≤ 12 → at 0 row k ≡ max (old k) (cond (eqb k month) miss 0)) → (k : ℕ) → at 0 row k ≤ 10000
counted_small row old month miss e small miss_small new zero = omega arith
counted_small row old month miss e small miss_small new (suc p) =
    ⊎_elim
    (λ (l : p < 12). rw (new (suc p) (omega arith) (omega arith))
    (today (eqb (suc p) month) (old (suc p)) (small (suc p))))
    (λ (l : 12 ≤ p). rw (get_or_past row p 0 (omega arith)) (omega arith))
    (cases_lt p 12)
  where
    today : (b : Bool) (n : ℕ) → n ≤ 10000 → max n (cond b miss 0) ≤ 10000
    today true n h = omega arith
    today false n h = omega arith

pub months_small : (book : Book) (seller month : ℕ) → at 0 (at [] book.year.misses seller) month ≤ 10000
months_small book seller month = (sound_of book).misses seller month

-- beyond the year's months there is nothing in either row
pub whole_row : (row : List ℕ) (old : ℕ → ℕ) (month miss : ℕ) → old 0 ≡ 0 → length row ≡ 12 → (1 ≤ month) × (month ≤ 12)
    → ((k : ℕ) → 0 < k → k ≤ 12 → at 0 row k ≡ max (old k) (cond (eqb k month) miss 0)) → ((k : ℕ) → 12 < k → old k ≡ 0)
    → at 0 row ≡ (λ k. max (old k) (cond (eqb k month) miss 0))
whole_row row old month miss first e within new beyond = fun_ext by
  where
    apart : (k : ℕ) → k ≢ month → old k ≡ 0 → 0 ≡ max (old k) (cond (eqb k month) miss 0)
    apart k n o = rw (o, ne_eqb k month n) refl

    by : (k : ℕ) → at 0 row k ≡ max (old k) (cond (eqb k month) miss 0)
    by zero = apart 0 (omega arith) first
    by (suc p) =
        ⊎_elim
        (λ (l : p < 12). new (suc p) (omega arith) (omega arith))
        (λ (l : 12 ≤ p). get_or_past row p 0 (omega arith) ∙ apart (suc p) (omega arith) (beyond (suc p) (omega arith)))
        (cases_lt p 12)
