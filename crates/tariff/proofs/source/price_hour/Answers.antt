use Rattle.std.proofs.Common.{w64, SFits, rules}
use Rattle.std.proofs.lemmas.Int.{to_z-of_z}
use Rattle.tariff.proofs.Quoted.{quoted}
use Rattle.tariff.proofs.source.price_hour.Goals as goal

pub returns : goal.returns
returns g c =
    let a : SFits w64 c.in_ok-day_ahead.day_ahead = search rules in
    let b : SFits w64 c.in_ok-real_time.real_time = search rules in
    quoted c.args.terms (g.S.PriceSource.tables c.args.source.now) c.args.kind c.args.day c.args.hour
    c.in_ok-block.block c.in_ok-day_ahead.day_ahead c.in_ok-real_time.real_time c.in_ok-factor.factor
    (g.met.S.PriceSource.limited c.args.source.now) c.in_ok-block.ensures.0 c.in_ok-block.ensures.1
    (search rules) (search rules) (search rules)
    c.price.result (simp to_z-of_z at c.price.ensures)
