-- Lists whose every figure is the same have it at every number. Assumes nothing.
use Rattle.std.proofs.Common.{◌≡◌, ℕ, zero, suc, ◌<◌, ◌≤◌, List, [], map, length, get_or, replicate, refl, ◌∙◌, ⊎_elim, arith}
use Rattle.std.proofs.lemmas.Bool.{cases_lt}
use Rattle.std.proofs.lemmas.List.{get_or-map, get_or_past, length-map}
use Rattle.std.proofs.Math.Path.{fun_ext}
use Rattle.tally.specs.Hours.{blank}
use Rattle.std.specs.List.{All}
use Rattle.book.specs.Led.{Laid}
use Rattle.book.specs.Records.{at, hour_of, hours_of}
use Rattle.book.specs.declared.records.HourRecord.{HourRecord}
use Rattle.book.specs.declared.records.HourRecord.TheVariants.{Unallotted}

pub get_or_same : {A : Type 0} (n i : ℕ) (x : A) → get_or (replicate n x) i x ≡ x
get_or_same zero i x = refl
get_or_same (suc n) zero x = refl
get_or_same (suc n) (suc i) x = get_or_same n i x

pub at_same : {A : Type 0} (n : ℕ) (none : A) (k : ℕ) → at none (replicate n none) k ≡ none
at_same n none zero = refl
at_same n none (suc i) = get_or_same n i none

-- every row of such a table, and what stands for a row that is not there
pub at_row : {A : Type 0} (n m : ℕ) (none : A) (row k : ℕ) → at none (at [] (replicate n (replicate m none)) row) k ≡ none
at_row n m none zero zero = refl
at_row n m none zero (suc i) = refl
at_row n m none (suc j) k = by n j
  where
    by : (n j : ℕ) → at none (get_or (replicate n (replicate m none)) j []) k ≡ none
    by zero j = empty k
      where
        empty : (k : ℕ) → at none [] k ≡ none
        empty zero = refl
        empty (suc i) = refl
    by (suc n) zero = at_same m none k
    by (suc n) (suc j) = by n j

pub blank_hour : (record_ : HourRecord) → hour_of record_ ≡ blank → (n : ℕ) → hours_of (replicate n record_) ≡ λ hour. blank
blank_hour record_ e n = fun_ext by
  where
    place : (n i : ℕ) → get_or (map hour_of (replicate n record_)) i blank ≡ blank
    place zero i = refl
    place (suc n) zero = e
    place (suc n) (suc i) = place n i

    by : (k : ℕ) → hours_of (replicate n record_) k ≡ blank
    by zero = refl
    by (suc i) = place n i

-- the first hours cleared
pub record Cleared (before after : List HourRecord) (count : ℕ) : Type 0 where
  pub long : length after ≡ 24
  pub cleared : (none : HourRecord) (k : ℕ) → k < count → hour_of (get_or after k none) ≡ blank
  pub laid : All Laid before → All Laid after

-- a day whose every hour was cleared
pub all_blank : (records : List HourRecord) → length records ≡ 24
    → ((none : HourRecord) (k : ℕ) → k < 24 → hour_of (get_or records k none) ≡ blank) → hours_of records ≡ λ hour. blank
all_blank records long cleared = fun_ext by
  where
    none : HourRecord
    none = Unallotted (record { results = []; offers = []; requests = [] })

    by : (k : ℕ) → hours_of records k ≡ blank
    by zero = refl
    by (suc k) =
        ⊎_elim
        (λ (l : k < 24). get_or-map hour_of records k none blank (omega (arith, long)) ∙ cleared none k l)
        (λ (l : 24 ≤ k). get_or_past (map hour_of records) k blank (let e = length-map records hour_of in omega (arith, long, e)))
        (cases_lt k 24)
