use Rattle.std.proofs.Common.{◌<◌, length, w64, SFits, get_or, pos, length-set, rules, arith}
use Rattle.std.proofs.lemmas.Int.{ints, to_z-of_z}
use Rattle.book.proofs.PricedPlaces.{places_more, priced_here}
use Rattle.book.proofs.priced_day.PricedDay.new.Goals as goal

pub loop-place-preserved : goal.loop-place-preserved
loop-place-preserved c =
    let l : c.loop-place.place < length c.loop-place.hours = omega arith in
    let day_ahead : SFits w64 c.by_block.result = search rules in
    let size = c.requires.real_time_small c.loop-place.place in
    let real_time : SFits w64 (get_or c.args.real_time c.loop-place.place (pos 0)) = omega (arith, ints) in
    record {
      places = simp length-set c.loop-place.invariant.places;
      priced = places_more _ c.loop-place.hours c.loop-place.place c.hour_prices.result l c.loop-place.invariant.priced
          (priced_here c.args.kind _ _ c.args.real_time c.args.factors c.loop-place.place c.by_block.result c.block.result
          c.hour_prices.result
          (rw c.at-hour.ensures at c.block.ensures) c.by_block.ensures (simp to_z-of_z at c.hour_prices.ensures));
    }
