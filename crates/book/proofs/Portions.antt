-- What a rule divides of an hour's requests, and what comes of it. Assumes nothing.
use Rattle.std.proofs.Common.{◌≡◌, ℕ, ◌+◌, ◌<◌, ◌≤◌, true, false, cond, eqb, List, sym, ◌∙◌, ap, arith}
use Rattle.std.proofs.Math.Path.{fun_ext}
use Rattle.std.proofs.lemmas.Bool.Decides.{nat_tests}
use Rattle.tariff.specs.Division.{Division}
use Rattle.tally.specs.Allotment.{counted_offer, surplus, requested, offered, offers_suffice, allot_total, allot_claims, held_whole}
use Rattle.tally.specs.Allotment.{allotment}
use Rattle.tally.specs.Hours.{Hour}
use Rattle.tally.specs.Numbered.{listed, numbered}

module _ (n : ℕ) (hour : Hour) where
  module _ (asked met : ℕ) (is_asked : asked ≡ requested n hour) (is_met : met ≡ offered n hour) where
    suffice : asked ≤ met → offers_suffice n hour ≡ true
    suffice l = grind (arith, nat_tests)

    lack : met < asked → offers_suffice n hour ≡ false
    lack l = grind (arith, nat_tests)

    pub offers_claimed : (offers : ℕ → ℕ) → offers ≡ counted_offer hour → asked ≤ met → listed offers n ≡ allot_claims n hour
    offers_claimed offers e l =
        ap (λ (f : ℕ → ℕ). listed f n) e
        ∙ sym (ap (λ b. cond b (listed (counted_offer hour) n) (listed (surplus hour) n)) (suffice l))

    pub surpluses_claimed : (surpluses : ℕ → ℕ) → surpluses ≡ surplus hour → met < asked → listed surpluses n ≡ allot_claims n hour
    surpluses_claimed surpluses e l =
        ap (λ (f : ℕ → ℕ). listed f n) e
        ∙ sym (ap (λ b. cond b (listed (counted_offer hour) n) (listed (surplus hour) n)) (lack l))

    pub offers_whole : (offers : ℕ → ℕ) → offers ≡ counted_offer hour → met < asked → offers ≡ held_whole n hour
    offers_whole offers e l = e ∙ sym (fun_ext (λ party. ap (λ b. cond b 0 (counted_offer hour party)) (lack l)))

  -- nothing is left to divide just where nothing is requested
  none_asked : 0 ≡ allot_total n hour → requested n hour ≡ 0
  none_asked z = grind (arith, nat_tests)

  some_asked : 0 < allot_total n hour → false ≡ eqb (requested n hour) 0
  some_asked l = grind (arith, nat_tests)

  module _ (rule : Division) where
    part : ℕ → ℕ
    part party = held_whole n hour party + numbered (rule (allot_total n hour) (allot_claims n hour)) party

    pub held_none : (holdings : ℕ → ℕ) → ((party : ℕ) → holdings party ≡ 0) → 0 ≡ allot_total n hour → holdings ≡ allotment n hour rule
    unfolding allotment part
    held_none holdings none z =
        fun_ext (λ party. none party ∙ ap (λ (k : ℕ). cond (eqb k 0) 0 (part party)) (sym (none_asked z)))

    pub held_divided : (holdings whole shares : ℕ → ℕ) (amount : ℕ) (claims : List ℕ) → 0 < amount → amount ≡ allot_total n hour
        → claims ≡ allot_claims n hour → whole ≡ held_whole n hour → shares ≡ numbered (rule amount claims)
        → holdings ≡ (λ party. whole party + shares party) → holdings ≡ allotment n hour rule
    unfolding allotment part
    held_divided holdings whole shares amount claims l is_total are_claims are_whole are_shares sums =
        fun_ext (λ party.
        omega (
          arith,
          ap (λ (f : ℕ → ℕ). f party) sums,
          ap (λ (f : ℕ → ℕ). f party) are_whole,
          ap (λ (f : ℕ → ℕ). f party) are_shares,
          ap (λ (k : ℕ). numbered (rule k claims) party) is_total,
          ap (λ list. numbered (rule (allot_total n hour) list) party) are_claims,
          ap (λ b. cond b 0 (part party)) (some_asked (omega (arith, is_total))),
        ))
