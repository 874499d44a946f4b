-- The program year of a book with the open day counted. Assumes nothing.
use Rattle.std.proofs.Common.{◌≡◌, ℕ, zero, suc, ◌+◌, ◌<◌, ◌≤◌, max, Bool, true, false, cond, eqb, ◌⊎◌, List, [], ◌∷◌, length, set, refl}
use Rattle.std.proofs.Common.{sym, ◌∙◌, ap, subst, inl, inr, ⊎_elim, mul-zero, arith}
use Rattle.std.proofs.Math.ListN.{length-set}
use Rattle.std.proofs.Math.Path.{fun_ext}
use Rattle.std.proofs.Props.{props}
use Rattle.std.proofs.lemmas.Bool.{cases_lt}
use mathlib.Core.Logic.{∥∥₁_elim}
use Rattle.tariff.specs.Blocks.{hours_of_day}
use Rattle.tally.specs.Charges.{ceiling_of, charge, cut_charge, failure_days, is_failure_day, missed_at, month_miss}
use Rattle.tally.specs.DayPrices.{DayPrices}
use Rattle.tally.specs.Numbered.{total, greatest}
use Rattle.tally.specs.States.{State, IsParty, hour_at}
use Rattle.tally.specs.Years.{day_charges, year_closed}
use Rattle.tally.proofs.Absent.{missed_absent}
use Rattle.tally.proofs.Charging.{charges_within_ceiling_lem}
use Rattle.tally.proofs.Numbering.{total_zero, greatest_bound}
use Rattle.tally.proofs.YearSizes.{ceiling_size}
use Rattle.book.proofs.RowWrites.{row_next, row_rest}
use Rattle.book.proofs.Facts.{sound_of}
use Rattle.book.specs.Books.{state_of}
use Rattle.book.specs.Records.{at, hours_of, year_in, set_up_in}
use Rattle.book.specs.declared.book.Book.{Book}
use Rattle.book.specs.declared.records.HourRecord.{HourRecord}
use Rattle.book.specs.declared.records.YearRecord.{YearRecord}

-- what was charged in a year so far is within what its ceiling can be
pub charged_small : (book : Book) (seller : ℕ) → at 0 book.year.charges seller ≤ 12000000000000
charged_small book seller =
    let sound = sound_of book in
    omega (
      arith,
      within,
      ceiling_size (set_up_in book.pool) sound.proper ((state_of book).year.misses seller) (sound.misses seller),
    )
  where
    Within : State → Type 0
    Within state = state.year.charges seller ≤ ceiling_of state.set_up (state.year.misses seller)

    within : Within (state_of book)
    within =
        ∥∥₁_elim book.led (hlevel props)
        (λ led.
        let law = charges_within_ceiling_lem (set_up_in book.pool) led.events led.proper led.lawful seller in
        subst Within (sym led.state) law.within)

-- a seller that missed nothing with any party
module _ (state : State) (seller : ℕ) (none : (hour buyer : ℕ) → (hour_at state hour).missed seller buyer ≡ 0) where
  none_at : (hour : ℕ) → missed_at state seller hour ≡ 0
  unfolding missed_at
  none_at hour = total_zero ((hour_at state hour).missed seller) state.set_up.parties (λ buyer _ _. none hour buyer)

  no_failure : failure_days state seller ≡ state.year.failure_days seller
  unfolding is_failure_day
  no_failure = rw (total_zero (missed_at state seller) hours_of_day (λ hour _ _. none_at hour)) (omega arith)

  no_miss : (month : ℕ) → month_miss state seller month ≡ state.year.misses seller month
  no_miss month =
      let e : greatest (missed_at state seller) hours_of_day ≡ 0 =
      omega (arith, greatest_bound (missed_at state seller) 0 hours_of_day (λ hour _ _. omega (arith, none_at hour))) in
      rw e (today (eqb month state.year.month) (state.year.misses seller month))
    where
      today : (b : Bool) (n : ℕ) → max n (cond b 0 0) ≡ n
      today true n = omega arith
      today false n = omega arith

  no_charge : (prices : DayPrices) → day_charges state prices seller ≡ 0
  unfolding day_charges cut_charge charge
  no_charge prices =
      total_zero (λ hour. total (cut_charge state prices seller hour) state.set_up.parties) hours_of_day
      (λ hour _ _. total_zero (cut_charge state prices seller hour) state.set_up.parties
      (λ buyer _ _. rw (none hour buyer, mul-zero) (omega arith)))

-- number 0 is no seller's
unsold : (records : List HourRecord) (hour buyer : ℕ) → (hours_of records hour).missed 0 buyer ≡ 0
unsold records zero buyer = refl
unsold [] (suc p) buyer = refl
unsold (r ∷ records) (suc zero) buyer = refl
unsold (r ∷ records) (suc (suc p)) buyer = unsold records (suc p) buyer

module _ (book : Book) where
  abbrev parties : ℕ
  parties = book.pool.parties

  -- a number is a party's, or what has it missed nothing
  by_number : (P : ℕ → Type 0) → ((k : ℕ) → IsParty (state_of book) k → P k)
      → ((k : ℕ) → (k ≡ 0) ⊎ (parties < k) → ((hour buyer : ℕ) → (hour_at (state_of book) hour).missed k buyer ≡ 0)
      → P k) → (k : ℕ) → P k
  by_number P party other zero = other 0 (inl refl) (unsold book.day.hours)
  by_number P party other (suc k) =
      ⊎_elim
      (λ (l : parties < suc k).
      other (suc k) (inr l) (λ hour buyer. missed_absent (state_of book) (sound_of book) (suc k) buyer (inl l) hour))
      (λ (l : suc k ≤ parties). party (suc k) (omega arith, l))
      (cases_lt parties (suc k))

  -- a year's record in which the sellers up to a number are counted, and the others are as they were
  pub record CountedTo (by_day : ℕ → ℕ) (n : ℕ) (new : YearRecord) : Type 0 where
    pub month : new.month ≡ book.year.month
    pub failure_days : (k : ℕ) → 0 < k → k ≤ n → at 0 new.failure_days k ≡ failure_days (state_of book) k
    pub misses : (k : ℕ) → 0 < k → k ≤ n → at 0 (at [] new.misses k) ≡ month_miss (state_of book) k
    pub charges : (k : ℕ) → 0 < k → k ≤ n → at 0 new.charges k ≡ at 0 book.year.charges k + by_day k
    pub other_days : (k : ℕ) → n < k → at 0 new.failure_days k ≡ at 0 book.year.failure_days k
    pub other_misses : (k : ℕ) → n < k → at [] new.misses k ≡ at [] book.year.misses k
    pub other_charges : (k : ℕ) → n < k → at 0 new.charges k ≡ at 0 book.year.charges k
    pub days_length : length new.failure_days ≡ 12
    pub misses_length : length new.misses ≡ 12
    pub charges_length : length new.charges ≡ 12

  pub counted_more : (by_day : ℕ → ℕ) (n : ℕ) (new : YearRecord) (days : ℕ) (row : List ℕ) (charged : ℕ)
      → CountedTo by_day n new → n < 12
      → days ≡ failure_days (state_of book) (suc n) → at 0 row ≡ month_miss (state_of book) (suc n)
      → charged ≡ at 0 book.year.charges (suc n) + by_day (suc n)
      → CountedTo by_day (n + 1) (record {
        month = new.month;
        failure_days = set new.failure_days n days;
        misses = set new.misses n row;
        charges = set new.charges n charged;
      })
  counted_more by_day n new days row charged so l d m c =
      let a : n < length new.failure_days = omega (arith, so.days_length) in
      let b : n < length new.misses = omega (arith, so.misses_length) in
      let e : n < length new.charges = omega (arith, so.charges_length) in
      record {
        month = so.month;
        failure_days = row_next 0 new.failure_days n days (λ k x. x ≡ failure_days (state_of book) k) a d so.failure_days;
        misses = row_next [] new.misses n row (λ k (x : List ℕ). at 0 x ≡ month_miss (state_of book) k) b m so.misses;
        charges = row_next 0 new.charges n charged (λ k x. x ≡ at 0 book.year.charges k + by_day k) e c so.charges;
        other_days = λ k after. row_rest 0 new.failure_days n days a k after ∙ so.other_days k (omega arith);
        other_misses = λ k after. row_rest [] new.misses n row b k after ∙ so.other_misses k (omega arith);
        other_charges = λ k after. row_rest 0 new.charges n charged e k after ∙ so.other_charges k (omega arith);
        days_length = length-set _ _ _ ∙ so.days_length;
        misses_length = length-set _ _ _ ∙ so.misses_length;
        charges_length = length-set _ _ _ ∙ so.charges_length;
      }

  -- with all parties counted it is the year that the tally has
  pub counted_all : (by_day : ℕ → ℕ) (new : YearRecord) → CountedTo by_day parties new → (prices : DayPrices)
      → ((seller : ℕ) → IsParty (state_of book) seller → by_day seller ≡ day_charges (state_of book) prices seller)
      → year_in new ≡ year_closed (state_of book) prices
  counted_all by_day new so prices charged = λ i. record {
    month = so.month i;
    failure_days = days i;
    misses = misses i;
    charges = all i;
  }
    where
      absent_same : {A : Type 0} (none : A) (new old : List A)
          → ((k : ℕ) → parties < k → at none new k ≡ at none old k) → (k : ℕ) → (k ≡ 0) ⊎ (parties < k)
          → at none new k ≡ at none old k
      absent_same none new old h zero is = refl
      absent_same none new old h (suc k) (inl e) = absurd (omega arith)
      absent_same none new old h (suc k) (inr l) = h (suc k) l

      days : at 0 new.failure_days ≡ failure_days (state_of book)
      days = fun_ext (by_number (λ k. at 0 new.failure_days k ≡ failure_days (state_of book) k)
          (λ k is. so.failure_days k is.0 is.1)
          (λ k is none. absent_same 0 new.failure_days book.year.failure_days so.other_days k is
          ∙ sym (no_failure (state_of book) k none)))

      misses : (λ seller. at 0 (at [] new.misses seller)) ≡ month_miss (state_of book)
      misses = fun_ext (by_number (λ k. at 0 (at [] new.misses k) ≡ month_miss (state_of book) k)
          (λ k is. so.misses k is.0 is.1)
          (λ k is none. ap (at 0) (absent_same [] new.misses book.year.misses so.other_misses k is)
          ∙ sym (fun_ext (no_miss (state_of book) k none))))

      all : at 0 new.charges ≡ (λ seller. at 0 book.year.charges seller + day_charges (state_of book) prices seller)
      all = fun_ext (by_number (λ k. at 0 new.charges k ≡ at 0 book.year.charges k + day_charges (state_of book) prices k)
          (λ k is. so.charges k is.0 is.1 ∙ ap (λ n. at 0 book.year.charges k + n) (charged k is))
          (λ k is none. let e = no_charge (state_of book) k none prices in
          absent_same 0 new.charges book.year.charges so.other_charges k is ∙ omega (arith, e)))
