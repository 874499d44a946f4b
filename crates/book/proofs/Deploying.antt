-- A deployment in one hour. Assumes nothing.
use Rattle.std.proofs.Common.{◌≡◌, ℕ, suc, ◌<◌, eqb, cond, Bool, true, false, List, [], length, set, replicate, get_or, refl, ◌∙◌, ap, subst}
use Rattle.std.proofs.Math.Path.{fun_ext}
use Rattle.tally.specs.Hours.{with_deployment}
use Rattle.tally.specs.Numbered.{replaced}
use Rattle.tally.specs.Pairs.{pair}
use Rattle.book.specs.Led.{Laid}
use Rattle.book.specs.Records.{at, by_seller, hour_of}
use Rattle.book.specs.declared.records.Entered.{Entered}
use Rattle.book.specs.declared.records.Held.{Held}
use Rattle.book.specs.declared.records.HourRecord.{HourRecord}
use Rattle.book.specs.declared.records.HourRecord.TheVariants.{Allotted}
use Rattle.book.proofs.Blanks.{at_same}
use Rattle.book.proofs.Placing.{at_set}

-- a row of an allotted hour's table has the buyer's pairs
pub row_is : (hour : HourRecord) (entered : Entered) (held : Held) → hour ≡ Allotted entered held → Laid hour → (place : ℕ)
    → at 0 (get_or held.pairs place []) ≡ λ seller. pair (hour_of (Allotted entered held)) seller (suc place)
row_is hour entered held is laid place = fun_ext (λ seller. subst Laid is laid refl seller (suc place))

-- a row of deployments written, and that of the misses cleared
pub written : (entered : Entered) (held : Held) (place : ℕ) (shares : List ℕ) → place < length held.deployed
    → place < length held.missed
    → hour_of (Allotted entered (record held { deployed = set held.deployed place shares; missed = set held.missed place (replicate 12 0) }))
    ≡ with_deployment (suc place) (at 0 shares) (hour_of (Allotted entered held))
written entered held place shares l m = λ i. record (hour_of (Allotted entered held)) {
  deployed = λ seller buyer. row held.deployed shares l seller (λ s. refl) buyer i;
  missed = λ seller buyer. row held.missed (replicate 12 0) m seller (λ s. at_same {A = ℕ} 12 0 s) buyer i;
}
  where
    row : (rows : List (List ℕ)) (new : List ℕ) → place < length rows → {f : ℕ → ℕ} (seller : ℕ) → ((s : ℕ) → at 0 new s ≡ f s)
        → (buyer : ℕ) → by_seller 0 (set rows place new) seller buyer ≡ replaced (by_seller 0 rows seller) (suc place) (f seller) buyer
    row rows new l {f} seller is buyer =
        ap (λ (r : ℕ → List ℕ). at 0 (r buyer) seller) (at_set [] rows place new l) ∙ by (eqb buyer (suc place))
      where
        by : (b : Bool) → at 0 (cond b new (at [] rows buyer)) seller ≡ cond b (f seller) (by_seller 0 rows seller buyer)
        by true = is seller
        by false = refl
