-- Rows of hours: one in which every hour is missing, and one of which a part is filled. Assumes nothing.
use Rattle.std.proofs.Common.{◌≡◌, ℕ, zero, suc, ◌+◌, ◌-◌, ◌<◌, ◌≤◌, Bool, true, false, cond, ◌&&◌, eqb, leb, ltb, List, length}
use Rattle.std.proofs.Common.{get_or, replicate, ⊎_elim, ◌∙◌, refl, ap, arith, rules, length-drop, length-take}
use Rattle.std.proofs.lemmas.Bool.{cases_lt, cond_both}
use Rattle.std.proofs.lemmas.Bool.Decides.{nat_tests}
use Rattle.std.proofs.lemmas.List.{get_or-replicate, places}
use borrow.Rule.Slice.PartMut.{mid_of, put_mid}
use Rattle.tariff.specs.Blocks.{is_hour}
use Rattle.sheets.proofs.SameSheets.{same_sheet}
use Rattle.sheets.specs.DaySheets.{hour_of, missing, sheet_of}
use Rattle.sheets.specs.Sheets.{among, filled, opened}
use Rattle.sheets.specs.declared.day_sheet.DaySheet.{DaySheet}
use Rattle.sheets.specs.declared.day_sheet.Hour.{Hour}

-- a row of one value, which is the default too, has it everywhere
same_everywhere : {A : Type 0} (n k : ℕ) (d : A) → get_or (replicate n d) k d ≡ d
same_everywhere zero k d = refl
same_everywhere (suc n) zero d = refl
same_everywhere (suc n) (suc k) d = same_everywhere n k d

-- a sheet on which no hour has a figure
module _ {Q : Type 0} (sheet : DaySheet Q) (all : sheet.hours ≡ replicate 24 missing) where
  nothing : (d hour : ℕ) → hour_of sheet d hour ≡ missing
  nothing d hour =
      cond_both (eqb d sheet.day && is_hour hour) (get_or sheet.hours (hour - 1) missing) missing (λ x. x ≡ missing)
      (λ _. rw all (same_everywhere 24 (hour - 1) missing)) (λ _. refl)

  pub sheet_opened : sheet_of sheet ≡ opened sheet.day sheet.heavy sheet.light
  sheet_opened = same_sheet _ _ refl (λ d block. refl) (λ d hour. ap (λ x. x.real_time) (nothing d hour))
      (λ d hour. ap (λ x. x.factor) (nothing d hour))

-- a place of a row after k places from a on were filled with v
at_filled : {A : Type 0} (a k : ℕ) (xs ys : List A) (v d : A) (i : ℕ) → a + k ≤ length xs → ys ≡ replicate k v
    → get_or (put_mid a k xs ys) i d ≡ cond (leb a i && ltb i (a + k)) v (get_or xs i d)
at_filled a k xs ys v d i h e =
    ⊎_elim
    (λ (l : i < a). let f : get_or (put_mid a k xs ys) i d ≡ get_or xs i d = search (rules, places) in grind (arith, nat_tests))
    (λ (m : a ≤ i).
    ⊎_elim
    (λ (l : i < a + k).
    let f : get_or (put_mid a k xs ys) i d ≡ get_or ys (i - a) d = search (rules, places) in
    let g : get_or ys (i - a) d ≡ v = ap (λ zs. get_or zs (i - a) d) e ∙ get_or-replicate k (i - a) v d (omega arith) in
    grind (arith, nat_tests))
    (λ (n : a + k ≤ i). let f : get_or (put_mid a k xs ys) i d ≡ get_or xs i d = search (rules, places) in grind (arith, nat_tests))
    (cases_lt i (a + k)))
    (cases_lt i a)

-- what stands for an hour after the hours from first to last of a day got one value
hour_filled : (day first last : ℕ) (xs ys : List Hour) (v : Hour) → 1 ≤ first → first ≤ last → last ≤ 24 → length xs ≡ 24
    → ys ≡ replicate (last - (first - 1)) v → (d hour : ℕ)
    → cond (eqb d day && is_hour hour) (get_or (put_mid (first - 1) (last - (first - 1)) xs ys) (hour - 1) missing) missing
    ≡ cond (among day first last d hour) v (cond (eqb d day && is_hour hour) (get_or xs (hour - 1) missing) missing)
hour_filled day first last xs ys v low order high n e d hour =
    let at = at_filled (first - 1) (last - (first - 1)) xs ys v missing (hour - 1) (omega arith) e in grind (arith, nat_tests)

-- a part of one of two values
of_either : {A B : Type 0} (f : A → B) (b : Bool) (x y : A) → f (cond b x y) ≡ cond b (f x) (f y)
of_either f true x y = refl
of_either f false x y = refl

-- a sheet after the hours from first to last got one value
module _ {Q : Type 0} (sheet : DaySheet Q) (first last : ℕ) (ys : List Hour) (v : Hour) (low : 1 ≤ first) (order : first ≤ last)
    (high : last ≤ 24)
    (n : length sheet.hours ≡ 24) (all : ys ≡ replicate (length (mid_of (first - 1) (last - (first - 1)) sheet.hours)) v) where
  e : ys ≡ replicate (last - (first - 1)) v
  e = all ∙ ap (λ k. replicate k v) (simp (length-take, length-drop) (omega arith))

  part : {B : Type 0} (f : Hour → B) (d hour : ℕ)
      → f (hour_of (record sheet { hours = put_mid (first - 1) (last - (first - 1)) sheet.hours ys }) d hour)
      ≡ cond (among sheet.day first last d hour) (f v) (f (hour_of sheet d hour))
  part f d hour = ap f (hour_filled sheet.day first last sheet.hours ys v low order high n e d hour)
      ∙ of_either f (among sheet.day first last d hour) v (hour_of sheet d hour)

  pub sheet_filled : sheet_of (record sheet { hours = put_mid (first - 1) (last - (first - 1)) sheet.hours ys })
      ≡ filled first last v.real_time v.factor (sheet_of sheet)
  sheet_filled = same_sheet _ _ refl (λ d block. refl) (part (λ h. h.real_time)) (part (λ h. h.factor))
