-- A close's prices, gathered hour by hour. Assumes nothing.
use Rattle.std.proofs.Common.{◌≡◌, ℕ, zero, suc, ◌+◌, ◌<◌, ◌≤◌, Bool, true, false, cond, ltb, List, map, length, get_or, set, ℤ, pos}
use Rattle.std.proofs.Common.{None, Option, unwrap_or, sym, refl, ap, ◌∙◌, ⊎_elim, length-set, arith}
use Rattle.std.proofs.Math.Path.{fun_ext}
use Rattle.std.proofs.lemmas.List.{get_or_past, length-map}
use Rattle.std.proofs.lemmas.Bool.{cases_lt}
use Rattle.std.proofs.lemmas.Bool.Decides.{nat_tests}
use Rattle.tariff.specs.Answers.{granted, in_order}
use Rattle.tariff.specs.Blocks.{is_hour}
use Rattle.tariff.specs.Tables.{Tables}
use Rattle.tariff.specs.declared.blocks.Block.{Block}
use Rattle.tariff.specs.declared.blocks.Block.TheVariants.{Heavy, Light}
use Rattle.tally.specs.DayPrices.{DayPrices, held_at, is_held, is_held_in, is_priced, needed_prices, needed_quotes_answer}
use Rattle.tally.specs.Numbered.{total}
use Rattle.tally.specs.States.{State}
use Rattle.tally.specs.Hours.{Hour, blank}
use Rattle.tally.proofs.Numbering.{total_zero}
use Rattle.book.specs.BlockQuotes.{block_quote}
use Rattle.book.specs.HourPricing.{by_block, day_prices}
use Rattle.book.specs.Books.{state_of}
use Rattle.book.specs.Records.{at, hour_of}
use Rattle.book.specs.declared.book.Book.{Book}
use Rattle.book.proofs.PricedPlaces.{places_more}
use Rattle.book.proofs.Testing.{in_order_more}

-- what is not needed stands at 0
unneeded : {A : Type 0} (needed : Bool) (quote : Option A) (other : A) → needed ≡ false → cond needed (unwrap_or quote other) other ≡ other
unneeded needed quote other e = ap (λ b. cond b (unwrap_or quote other) other) e

-- a price that is not needed is not asked for, and stands at 0
asked_price : (needed : Bool) (quote : Option ℤ) → unwrap_or (cond needed quote None) (pos 0)
    ≡ cond needed (unwrap_or quote (pos 0)) (pos 0)
asked_price true quote = refl
asked_price false quote = refl

module _ (state : State) (tables : Tables) where
  abbrev needed : DayPrices
  needed = needed_prices state tables

  pub record Gathered (place : ℕ) (real_times : List ℤ) (factors : List ℕ) : Type 0 where
    pub found : in_order (needed_quotes_answer state tables) place ≡ granted
    pub real_time_places : length real_times ≡ 24
    pub factor_places : length factors ≡ 24
    pub real_time : (k : ℕ) → k < place → (none : ℤ) → get_or real_times k none ≡ needed.real_time (suc k)
    pub factor : (k : ℕ) → k < place → (none : ℕ) → get_or factors k none ≡ needed.factor (suc k)

  pub gathered_none : (real_time : List ℤ) (factors : List ℕ) → length real_time ≡ 24 → length factors ≡ 24 → Gathered 0 real_time factors
  unfolding in_order
  gathered_none real_time factors r f = record {
    found = refl;
    real_time_places = r;
    factor_places = f;
    real_time = λ k m _. absurd (omega arith);
    factor = λ k m _. absurd (omega arith);
  }

  pub gathered_more : (place : ℕ) (real_time : List ℤ) (factors : List ℕ) (price : ℤ) (factor : ℕ) → place < 24
      → Gathered place real_time factors → granted ≡ needed_quotes_answer state tables (suc place)
      → price ≡ needed.real_time (suc place) → factor ≡ needed.factor (suc place)
      → Gathered (place + 1) (set real_time place price) (set factors place factor)
  gathered_more place real_time factors price factor l g ok p f = record {
    found = in_order_more (needed_quotes_answer state tables) place g.found ok;
    real_time_places = simp length-set g.real_time_places;
    factor_places = simp length-set g.factor_places;
    real_time = places_more (λ k. needed.real_time (suc k)) real_time place price (omega (arith, g.real_time_places)) g.real_time p;
    factor = places_more (λ k. needed.factor (suc k)) factors place factor (omega (arith, g.factor_places)) g.factor f;
  }

  pub block_cents : (block : Block) → unwrap_or (block_quote state tables block).cents (pos 0) ≡ needed.day_ahead block
  block_cents block = asked_price (is_held_in state block) (tables.day_ahead state.day.number block)

  -- once all hours were asked
  module _ (real_time : List ℤ) (factors : List ℕ) (place : ℕ) (all : 24 ≤ place) (g : Gathered place real_time factors) where
    -- a number that is no hour's has no prices
    real_time_by : (hour : ℕ) → at (pos 0) real_time hour ≡ needed.real_time hour
    real_time_by zero = sym (unneeded (is_priced state 0) (tables.real_time state.day.number 0) (pos 0) (grind (arith, nat_tests)))
    real_time_by (suc k) =
        ⊎_elim
        (λ (l : k < 24). g.real_time k (omega arith) (pos 0))
        (λ (l : 24 ≤ k). get_or_past real_time k (pos 0) (omega (arith, g.real_time_places))
        ∙ sym (unneeded (is_priced state (suc k)) (tables.real_time state.day.number (suc k)) (pos 0) (grind (arith, nat_tests))))
        (cases_lt k 24)

    module _ (unheld : (hour : ℕ) → is_hour hour ≡ false → held_at state hour ≡ 0) where
      factor_by : (hour : ℕ) → at 0 factors hour ≡ needed.factor hour
      factor_by zero = sym (unneeded (is_held state 0) (tables.factor state.day.number 0) 0 (ap (ltb 0) (unheld 0 refl)))
      factor_by (suc k) =
          ⊎_elim
          (λ (l : k < 24). g.factor k (omega arith) 0)
          (λ (l : 24 ≤ k). get_or_past factors k 0 (omega (arith, g.factor_places))
          ∙ sym (unneeded (is_held state (suc k)) (tables.factor state.day.number (suc k)) 0
          (ap (ltb 0) (unheld (suc k) (grind (arith, nat_tests))))))
          (cases_lt k 24)

      pub gathered_prices : (made : DayPrices) (heavy light : ℤ) → heavy ≡ unwrap_or (block_quote state tables Heavy).cents (pos 0)
          → light ≡ unwrap_or (block_quote state tables Light).cents (pos 0)
          → made ≡ day_prices heavy light real_time factors → made ≡ needed
      gathered_prices made heavy light h l e =
          e ∙ ap (λ (f : Block → ℤ). with f (at (pos 0) real_time) (at 0 factors)) (fun_ext by)
          ∙ ap (λ (f : ℕ → ℤ). with needed.day_ahead f (at 0 factors)) (fun_ext real_time_by)
          ∙ ap (λ (f : ℕ → ℕ). with needed.day_ahead needed.real_time f) (fun_ext factor_by)
        where
          with : (Block → ℤ) → (ℕ → ℤ) → (ℕ → ℕ) → DayPrices
          with day_ahead real factor = record { day_ahead = day_ahead; real_time = real; factor = factor }

          by : (block : Block) → by_block heavy light block ≡ needed.day_ahead block
          by Heavy = h ∙ block_cents Heavy
          by Light = l ∙ block_cents Light

-- nothing is held in a number that is no hour's
pub unheld : (book : Book) → length book.day.hours ≡ 24 → (hour : ℕ) → is_hour hour ≡ false → held_at (state_of book) hour ≡ 0
unheld book places zero out = total_zero (λ party. 0) book.pool.parties (λ _ _ _. refl)
unheld book places (suc k) out =
    let l : length (map hour_of book.day.hours) ≤ k = rw length-map (outside k out places) in
    ap (λ (hour : Hour). total hour.holdings book.pool.parties) (get_or_past (map hour_of book.day.hours) k blank l)
    ∙ total_zero (λ party. 0) book.pool.parties (λ _ _ _. refl)
  where
    outside : (k : ℕ) → is_hour (suc k) ≡ false → length book.day.hours ≡ 24 → length book.day.hours ≤ k
    outside k out places = grind (arith, nat_tests)
