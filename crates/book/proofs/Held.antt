-- What is held in an hour and in a block. Assumes nothing.
use Rattle.std.proofs.Common.{◌≡◌, ℕ, suc, ◌+◌, ◌<◌, ◌≤◌, true, false, cond, ltb, refl, sym, ◌∙◌, ap, add-one, arith}
use Rattle.std.proofs.lemmas.Bool.Decides.{nat_tests}
use Rattle.tariff.specs.declared.blocks.Block.{Block}
use Rattle.tally.specs.DayPrices.{in_block, held_at, is_held_in}
use Rattle.tally.specs.Numbered.{total}
use Rattle.tally.specs.States.{State}
use Rattle.tally.proofs.Numbering.{total_more, term_le}

module _ (state : State) (block : Block) where
  -- MW held in an hour, unless it belongs to the other block
  abbrev pub held_inside : ℕ → ℕ
  held_inside hour = cond (in_block state block hour) (held_at state hour) 0

  pub held_in_hour : (hour : ℕ) → 0 < hour → hour ≤ 24 → in_block state block hour ≡ true → 0 < held_at state hour
      → is_held_in state block ≡ true
  unfolding is_held_in
  held_in_hour hour l m inside held = some (term_le held_inside hour 24 l m) (ap (λ b. cond b (held_at state hour) 0) inside)
    where
      some : held_inside hour ≤ total held_inside 24 → held_inside hour ≡ held_at state hour → ltb 0 (total held_inside 24) ≡ true
      some a e = grind (arith, nat_tests)

  -- one more hour in which nothing is held inside the block
  pub held_in_more : (hour : ℕ) → total held_inside hour ≡ 0 → held_inside (suc hour) ≡ 0 → total held_inside (hour + 1) ≡ 0
  held_in_more hour e f = omega (arith, ap (total held_inside) (add-one hour), total_more held_inside hour)

  pub held_in_none : (hour : ℕ) → total held_inside hour ≡ 0 → hour ≡ 24 → is_held_in state block ≡ false
  unfolding is_held_in
  held_in_none hour e f = let g : total held_inside 24 ≡ 0 = sym (ap (total held_inside) f) ∙ e in rw g refl
