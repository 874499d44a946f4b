use Rattle.std.proofs.Common.{◌≡◌, length, refl, rules, arith}
use Rattle.std.proofs.lemmas.Result.{err_from_is_err_and}
use Rattle.book.proofs.Dividing.{division_answers, division_moved, division_shares, division_within}
use Rattle.book.proofs.division.divide.Goals as goal

pub returns-in_err-divide-clause-answer : goal.returns-in_err-divide-clause-answer
returns-in_err-divide-clause-answer g c =
    let long : length c.widened.result ≡ 12 = search rules in
    let wide : c.from.result ≡ c.args.amount = search rules in
    let p = err_from_is_err_and c.from_residual.result c.from_residual.ensures.1 in
    rw (p.1, p.2, ← c.widened.ensures, ← wide) (division_answers c.args.parties c.widened.result long c.requires c.in_err-divide.ensures.divided)

pub narrowed-requires : goal.narrowed-requires
narrowed-requires g c = λ party.
    let long : length c.widened.result ≡ 12 = search rules in
    let wide : c.from.result ≡ c.args.amount = search rules in
    let within =
    division_within c.args.parties c.widened.result long c.requires c.in_ok-divide.ensures.divided
    (g.met.R.DivisionRule.lawful c.args.rule.now) refl party in
    omega (arith, within)

pub returns-clause-answer : goal.returns-clause-answer
returns-clause-answer g c =
    let long : length c.widened.result ≡ 12 = search rules in
    let wide : c.from.result ≡ c.args.amount = search rules in
    rw (← c.widened.ensures, ← wide) (division_answers c.args.parties c.widened.result long c.requires c.in_ok-divide.ensures.divided)

pub returns-clause-shares : goal.returns-clause-shares
returns-clause-shares g c =
    let long : length c.widened.result ≡ 12 = search rules in
    let wide : c.from.result ≡ c.args.amount = search rules in
    rw (c.narrowed.ensures, ← c.widened.ensures, ← wide)
    (division_shares c.args.parties c.widened.result long c.requires c.in_ok-divide.ensures.divided refl)

pub returns-clause-moved : goal.returns-clause-moved
returns-clause-moved g c =
    let long : length c.widened.result ≡ 12 = search rules in
    let wide : c.from.result ≡ c.args.amount = search rules in
    rw (← c.widened.ensures, ← wide) (division_moved c.args.parties c.widened.result long c.requires c.in_ok-divide.ensures.divided)

pub returns-clause-within : goal.returns-clause-within
returns-clause-within g c = λ party.
    let long : length c.widened.result ≡ 12 = search rules in
    let wide : c.from.result ≡ c.args.amount = search rules in
    rw (c.narrowed.ensures, ← wide)
    (division_within c.args.parties c.widened.result long c.requires c.in_ok-divide.ensures.divided
    (g.met.R.DivisionRule.lawful c.args.rule.now) refl party)
