-- Figures written by place, as the tally lists them by number. Assumes nothing.
use Rattle.std.proofs.Common.{◌≡◌, ℕ, suc, ◌<◌, ◌≤◌, List, length, take, get_or, sym, ◌∙◌, arith}
use Rattle.std.proofs.lemmas.Grind.{same_number_lists}
use Rattle.std.proofs.lemmas.List.{get_or-take, length-take-le}
use Rattle.tally.specs.Numbered.{listed}
use Rattle.tally.proofs.Numbering.{length_listed, slice_index_listed}

-- the first places have the first figures
pub listed_front : (f : ℕ → ℕ) (list : List ℕ) (n : ℕ) → n ≤ length list
    → ((k : ℕ) → k < n → get_or list k 0 ≡ f (suc k)) → take n list ≡ listed f n
listed_front f list n l h =
    let e : length (take n list) ≡ n = length-take-le n list l in
    same_number_lists (take n list) (listed f n) (e ∙ sym (length_listed f n))
    (λ k m. let b : k < n = omega (arith, e) in get_or-take n list k 0 b ∙ h k b ∙ sym (slice_index_listed f n k b))
