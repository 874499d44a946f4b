-- Lists that are filled place by place with what a function says of each number. Assumes nothing.
use Rattle.std.proofs.Common.{◌≡◌, ℕ, zero, suc, ◌+◌, ◌<◌, ◌≤◌, List, length, get_or, set, sym, ◌∙◌, ⊎_elim, length-set, arith}
use Rattle.std.proofs.Math.Path.{fun_ext}
use Rattle.std.proofs.lemmas.Bool.{cases_lt}
use Rattle.std.proofs.lemmas.List.{get_or_past}
use Rattle.book.specs.Records.{at}
use Rattle.book.proofs.RowWrites.{place_next}

-- the first places of a list with a place for each party
pub record Filled {A : Type 0} (none : A) (list : List A) (f : ℕ → A) (count : ℕ) : Type 0 where
  pub long : length list ≡ 12
  pub here : (k : ℕ) → k < count → get_or list k none ≡ f (suc k)

-- one more place written
pub filled_more : {A : Type 0} (none : A) (list : List A) (f : ℕ → A) (i : ℕ) (x : A) → i < 12
    → Filled none list f i → x ≡ f (suc i) → Filled none (set list i x) f (i + 1)
filled_more none list f i x l filled here =
    let in_list : i < length list = omega (arith, filled.long) in
    record {
      long = length-set list i x ∙ filled.long;
      here = place_next none list i x (λ k y. y ≡ f (suc k)) in_list here filled.here;
    }

-- all of them, where the function says nothing of other numbers
pub filled_all : {A : Type 0} (none : A) (list : List A) (f : ℕ → A) (count : ℕ) → 12 ≤ count → Filled none list f count
    → f 0 ≡ none → ((k : ℕ) → 12 ≤ k → f (suc k) ≡ none) → at none list ≡ f
filled_all none list f count m filled first past = fun_ext by
  where
    by : (k : ℕ) → at none list k ≡ f k
    by zero = sym first
    by (suc k) =
        ⊎_elim
        (λ (l : k < 12). filled.here k (omega arith))
        (λ (l : 12 ≤ k). get_or_past list k none (omega (arith, filled.long)) ∙ sym (past k l))
        (cases_lt k 12)
