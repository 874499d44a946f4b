-- A rule that never moves its meaning keeps it through the turns of a close. Assumes nothing.
use Rattle.std.proofs.Common.{◌≡◌, ℕ, zero, suc, ◌+◌, ◌-◌, ◌<◌, ◌≤◌, List, sym, ap, ◌∙◌, ⊎_elim, arith}
use Rattle.std.proofs.lemmas.Bool.{cases_lt}
use Rattle.tariff.specs.Division.{Division, Unmoved}
use Rattle.tariff.specs.declared.blocks.Block.TheVariants.{Heavy, Light}
use Rattle.tally.specs.DayPrices.{DayPrices}
use Rattle.tally.specs.States.{State}
use Rattle.tally.specs.Turns.{Turned, Turns, UnmovedRulesKeepOneMeaning}

unmoved : (amount : ℕ) (claims : List ℕ) (before after : Division) → Turned Unmoved amount claims before after → after ≡ before
unmoved zero claims before after h = h
unmoved (suc amount) claims before after h = h

module _ (state : State) (prices : DayPrices) (meanings : ℕ → Division) (first last : Division)
    (turns : Turns Unmoved state prices meanings first last) where
  abbrev parties : ℕ
  parties = state.set_up.parties

  -- turn k is the heavy block's of seller k + 1, or the light block's of the seller as many after the last
  next : (k : ℕ) → k < parties + parties → meanings (suc k) ≡ meanings k
  next k l =
      ⊎_elim
      (λ (h : k < parties).
      let e : suc k - 1 ≡ k = omega arith in
      let f : suc k - 1 + 1 ≡ suc k = omega arith in
      sym (ap meanings f) ∙ unmoved _ _ _ _ (turns.turns Heavy (suc k) (omega arith, omega arith)) ∙ ap meanings e)
      (λ (h : parties ≤ k).
      let e : parties + (suc (k - parties) - 1) ≡ k = omega arith in
      let f : parties + (suc (k - parties) - 1) + 1 ≡ suc k = omega arith in
      sym (ap meanings f) ∙ unmoved _ _ _ _ (turns.turns Light (suc (k - parties)) (omega arith, omega arith)) ∙ ap meanings e)
      (cases_lt k parties)

  same : (k : ℕ) → k ≤ parties + parties → meanings k ≡ first
  same zero l = turns.starts
  same (suc k) l = next k (omega arith) ∙ same k (omega arith)

pub unmoved_rules_keep_one_meaning_lem : UnmovedRulesKeepOneMeaning
unmoved_rules_keep_one_meaning_lem = same
