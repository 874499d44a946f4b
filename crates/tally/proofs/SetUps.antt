-- What an accepted set-up keeps. Assumes nothing.
use Rattle.std.proofs.Common.{◌≡◌, ℕ, ◌≤◌, true, ℤ, pos, negsuc, nat_abs, refl, ◌∙◌, arith}
use lib.Signed.{le_z}
use Rattle.std.proofs.lemmas.Int.{ints}
use Rattle.std.proofs.lemmas.Bool.{and_parts}
use Rattle.std.proofs.lemmas.Bool.Decides.{nat_tests}
use Rattle.tariff.specs.Answers.{require}
use Rattle.tariff.specs.Figures.{between}
use Rattle.tariff.specs.declared.refusal.Refusal.TheVariants.{Parties, Rates}
use Rattle.tally.specs.Laws.{AcceptedSetUpsProper}
use Rattle.tally.specs.States.{SetUp, Proper, set_up_answer}
use Rattle.tally.proofs.Granting.{then_first, then_next, passed, within_limits}

module _ (set_up : SetUp) (proper : Proper set_up) where
  pub few_parties : set_up.parties ≤ 12
  few_parties = (within_limits 2 12 (pos set_up.parties)
      (passed _ Parties (then_first (require (between 2 12 (pos set_up.parties)) Parties) _ proper))).1

  pub step_within_full : set_up.step ≤ set_up.full
  step_within_full =
      let rates = passed _ Rates (then_next (require (between 2 12 (pos set_up.parties)) Parties) _ proper) in
      grind (arith, ints, nat_tests)

  pub full_size : set_up.full ≤ 100000000
  full_size =
      let rates = passed _ Rates (then_next (require (between 2 12 (pos set_up.parties)) Parties) _ proper) in
      grind (arith, ints, nat_tests)

-- a figure that is not below 0 is its size
sized : (low : ℕ) (figure : ℤ) → le_z (pos low) figure ≡ true → pos (nat_abs figure) ≡ figure
sized low (pos n) e = refl
sized low (negsuc n) e = absurd (grind (arith, ints, nat_tests))

pub accepted_set_ups_proper_lem : AcceptedSetUpsProper
accepted_set_ups_proper_lem parties full step ok =
    let is_parties = and_parts (le_z (pos 2) parties) _ (passed _ Parties (then_first (require (between 2 12 parties) Parties) _ ok)) in
    let is_step = and_parts (le_z (pos 0) step) _ (passed _ Rates (then_next (require (between 2 12 parties) Parties) _ ok)) in
    let is_full = and_parts (le_z (pos 0) full) _ (and_parts (le_z step full) _ is_step.1).1 in
    let same : set_up_answer (pos (nat_abs parties)) (pos (nat_abs full)) (pos (nat_abs step)) ≡ set_up_answer parties full step =
    λ i. set_up_answer (sized 2 parties is_parties.0 i) (sized 0 full is_full.0 i) (sized 0 step is_step.0 i) in
    same ∙ ok
