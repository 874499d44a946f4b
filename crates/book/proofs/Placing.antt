-- Writes at a place, by number. Assumes nothing.
use Rattle.std.proofs.Common.{◌≡◌, ◌≢◌, ℕ, zero, suc, ◌<◌, Bool, true, false, cond, eqb, List, [], map, length, get_or, set, refl, sym, ◌∙◌}
use Rattle.std.proofs.Common.{ap, arith}
use Rattle.std.proofs.Math.Path.{fun_ext}
use Rattle.std.proofs.lemmas.Bool.{eqb-true, eqb-false}
use Rattle.std.proofs.lemmas.Bool.Decides.{nat_tests}
use Rattle.std.proofs.lemmas.List.{get_or-set_same, get_or-set_other, get_or-map, map-set, length-map}
use Rattle.tally.specs.Numbered.{replaced}
use Rattle.book.specs.Records.{at, by_seller, hour_of, hours_of}
use Rattle.book.specs.declared.records.HourRecord.{HourRecord}
use Rattle.tally.specs.Hours.{Hour, blank}

-- a figure written at a place takes the place of that number's
pub at_set : {A : Type 0} (none : A) (list : List A) (p : ℕ) (x : A) → p < length list
    → at none (set list p x) ≡ replaced (at none list) (suc p) x
at_set none list p x l = fun_ext by
  where
    at_place : (i : ℕ) (b : Bool) → eqb (suc i) (suc p) ≡ b → get_or (set list p x) i none ≡ cond b x (get_or list i none)
    at_place i true e = let s : i ≡ p = omega (arith, eqb-true _ _ e) in rw s (get_or-set_same list p x none l)
    at_place i false e = let n : i ≢ p = λ s. eqb-false _ _ e (ap suc s) in get_or-set_other list p i x none n

    by : (k : ℕ) → at none (set list p x) k ≡ replaced (at none list) (suc p) x k
    by zero = grind (arith, nat_tests)
    by (suc i) = at_place i (eqb (suc i) (suc p)) refl

-- the same in a table with a row for each buyer, of which one is written
pub by_seller_put : {A : Type 0} (none : A) (rows : List (List A)) (b s : ℕ) (row : List A) (x : A) → b < length rows
    → at none row ≡ replaced (at none (get_or rows b [])) s x
    → by_seller none (set rows b row) ≡ replaced (by_seller none rows) s (replaced (by_seller none rows s) (suc b) x)
by_seller_put {A} none rows b s row x l m = fun_ext (λ i. fun_ext (λ j.
    ap (λ (f : ℕ → List A). at none (f j) i) (at_set [] rows b row l) ∙ whole i j))
  where
    by : (i j : ℕ) (c : Bool) → eqb j (suc b) ≡ c → (d : Bool) → eqb i s ≡ d
        → at none (cond c row (at [] rows j)) i ≡ cond d (cond c x (at none (at [] rows j) s)) (at none (at [] rows j) i)
    by i j true e d f =
        ap (λ (g : ℕ → A). g i) m
        ∙ ap (λ v. cond v x (at none (at [] rows (suc b)) i)) f
        ∙ ap (λ k. cond d x (at none (at [] rows k) i)) (sym (eqb-true j (suc b) e))
    by i j false e true f = ap (at none (at [] rows j)) (eqb-true i s f)
    by i j false e false f = refl

    whole : (i j : ℕ) → at none (replaced (at [] rows) (suc b) row j) i
        ≡ replaced (by_seller none rows) s (replaced (by_seller none rows s) (suc b) x) i j
    whole i j = by i j (eqb j (suc b)) refl (eqb i s) refl ∙ spread (eqb i s)
      where
        spread : (d : Bool) → cond d (cond (eqb j (suc b)) x (at none (at [] rows j) s)) (at none (at [] rows j) i)
            ≡ (cond d (replaced (by_seller none rows s) (suc b) x) (by_seller none rows i)) j
        spread true = refl
        spread false = refl

-- a record of a day by its number
pub hour_read : (records : List HourRecord) (p : ℕ) (none : HourRecord) → p < length records
    → hour_of (get_or records p none) ≡ hours_of records (suc p)
hour_read records p none l = sym (get_or-map hour_of records p none blank l)

-- the records of a day by number, and one of them written
pub hours_set : (records : List HourRecord) (p : ℕ) (new : HourRecord) → p < length records
    → hours_of (set records p new) ≡ replaced (hours_of records) (suc p) (hour_of new)
hours_set records p new l =
    ap (at blank) (map-set hour_of records p new)
    ∙ at_set blank (map hour_of records) p (hour_of new) (let e = length-map records hour_of in omega arith)

-- a change of one hour's record, as the hours by number have it
pub hour_entered : (records : List HourRecord) (p : ℕ) (none new : HourRecord) (change : Hour → Hour) → p < length records
    → hour_of new ≡ change (hour_of (get_or records p none))
    → hours_of (set records p new) ≡ replaced (hours_of records) (suc p) (change (hours_of records (suc p)))
hour_entered records p none new change l e =
    hours_set records p new l ∙ ap (replaced (hours_of records) (suc p)) (e ∙ ap change (hour_read records p none l))
