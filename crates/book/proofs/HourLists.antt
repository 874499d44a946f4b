-- Lists of hours, one more of which is written after another. Assumes nothing.
use Rattle.std.proofs.Common.{◌≡◌, ◌≢◌, ℕ, zero, suc, ◌+◌, ◌<◌, ◌≤◌, max, Bool, true, false, cond, List, length, replicate, set}
use Rattle.std.proofs.Common.{slice_index, ℤ, pos, ◌+ℤ◌, refl, sym, ◌∙◌, ap, ap₂, add-one, get_or-set_other, get_or-set_same, arith}
use Rattle.std.proofs.lemmas.Int.{ints}
use Rattle.tariff.specs.declared.blocks.Block.{Block}
use Rattle.tally.specs.DayPrices.{in_block}
use Rattle.tally.specs.Numbered.{total_z, greatest}
use Rattle.tally.specs.States.{State, hour_at}
use Rattle.tally.proofs.Numbering.{total_z_none, total_z_more, total_z_same, greatest_none, greatest_more, greatest_le}
use Rattle.book.specs.AllottedHours.{ComesTo}
use Rattle.book.specs.Records.{at}
use Rattle.book.proofs.Blanks.{get_or_same}
use Rattle.book.proofs.RowWrites.{row_all}
use Rattle.book.proofs.BlockLoops.{of_block, figures_of}

-- the places before one that is written stay
kept : (places : List ℕ) (count p k : ℕ) → 0 < k → k ≤ count → at 0 (set places count p) k ≡ at 0 places k
kept places count p zero first last = refl
kept places count p (suc i) first last = let n : i ≢ count = omega arith in get_or-set_other places count i p 0 n

-- every place stays one of an hour
pub known_more : (places : List ℕ) (count p : ℕ) → count < length places → p < 24
    → ((k : ℕ) → slice_index places k < 24)
    → (k : ℕ) → slice_index (set places count p) k < 24
known_more places count p l m known k = row_all 0 places count p (λ x. x < 24) l m numbered (suc k)
  where
    numbered : (k : ℕ) → at 0 places k < 24
    numbered zero = omega arith
    numbered (suc i) = known i

pub known_first : (k : ℕ) → slice_index (replicate 24 0) k < 24
known_first k = let e = get_or_same {A = ℕ} 24 k 0 in omega (arith, e)

module _ (state : State) (block : Block) where
  pub none_listed : (places : List ℕ) → ComesTo state block places 0 0
  none_listed places = record {
    sums = λ f h. total_z_none _ ∙ sym (total_z_none _);
    most = λ f h. greatest_none _ ∙ sym (greatest_none _);
  }

  module _ (places : List ℕ) (count p : ℕ) (old : ComesTo state block places count p) where
    -- an hour left out, in which the figures are 0 or which is not the block's
    pub left_out : cond (in_block state block (suc p)) (hour_at state (suc p)).allotted false ≡ false
        → ComesTo state block places count (p + 1)
    left_out e = record {
      sums = λ f h.
          old.sums f h ∙ rw (add-one, total_z_more (of_block state block f) p, out_z f h _ refl e) (omega (arith, ints));
      most = λ f h.
          old.most f h ∙ rw (add-one, greatest_more (figures_of state block f) p, out_n f h _ refl e) (omega arith);
    }
      where
        out_z : (f : ℕ → ℤ) → ((hour : ℕ) → (hour_at state hour).allotted ≡ false → f hour ≡ pos 0)
            → (b : Bool) → in_block state block (suc p) ≡ b → cond b (hour_at state (suc p)).allotted false ≡ false
            → of_block state block f (suc p) ≡ pos 0
        out_z f h true e g = rw e (h (suc p) g)
        out_z f h false e g = rw e refl

        out_n : (f : ℕ → ℕ) → ((hour : ℕ) → (hour_at state hour).allotted ≡ false → f hour ≡ 0)
            → (b : Bool) → in_block state block (suc p) ≡ b → cond b (hour_at state (suc p)).allotted false ≡ false
            → figures_of state block f (suc p) ≡ 0
        out_n f h true e g = rw e (h (suc p) g)
        out_n f h false e g = rw e refl

    -- an hour of the block written down
    pub written : count < length places → in_block state block (suc p) ≡ true
        → ComesTo state block (set places count p) (count + 1) (p + 1)
    written l e = record {
      sums = λ f h.
          ap (total_z (λ k. f (suc (at 0 (set places count p) k)))) (add-one count)
          ∙ total_z_more (λ k. f (suc (at 0 (set places count p) k))) count
          ∙ ap₂ ◌+ℤ◌
          (total_z_same (λ k. f (suc (at 0 (set places count p) k))) (λ k. f (suc (at 0 places k))) count
          (λ k first last. ap (λ x. f (suc x)) (kept places count p k first last))
          ∙ old.sums f h)
          (ap (λ x. f (suc x)) (get_or-set_same places count p 0 l) ∙ sym (ap (λ b. cond b (f (suc p)) (pos 0)) e))
          ∙ sym (total_z_more (of_block state block f) p)
          ∙ sym (ap (total_z (of_block state block f)) (add-one p));
      most = λ f h.
          ap (greatest (λ k. f (suc (at 0 (set places count p) k)))) (add-one count)
          ∙ greatest_more (λ k. f (suc (at 0 (set places count p) k))) count
          ∙ ap₂ max
          (same f ∙ old.most f h)
          (ap (λ x. f (suc x)) (get_or-set_same places count p 0 l) ∙ sym (ap (λ b. cond b (f (suc p)) 0) e))
          ∙ sym (greatest_more (figures_of state block f) p)
          ∙ sym (ap (greatest (figures_of state block f)) (add-one p));
    }
      where
        same : (f : ℕ → ℕ) → greatest (λ k. f (suc (at 0 (set places count p) k))) count
            ≡ greatest (λ k. f (suc (at 0 places k))) count
        same f =
            let a = greatest_le (λ k. f (suc (at 0 (set places count p) k))) (λ k. f (suc (at 0 places k))) count
            (λ k first last. let e = ap (λ x. f (suc x)) (kept places count p k first last) in omega (arith, e)) in
            let b = greatest_le (λ k. f (suc (at 0 places k))) (λ k. f (suc (at 0 (set places count p) k))) count
            (λ k first last. let e = ap (λ x. f (suc x)) (kept places count p k first last) in omega (arith, e)) in
            omega (arith, a, b)
