use Rattle.std.proofs.Common.{◌<◌, length, rules}
use Rattle.book.proofs.Placing.{by_seller_put}
use Rattle.book.proofs.tables.put.Goals as goal

pub returns : goal.returns
returns g c =
    let l : c.place.result < length c.args.table.now = search rules in
    λ none.
    rw (← c.place.ensures.value)
    (by_seller_put none c.args.table.now c.place.result c.args.seller _ c.args.figure l (c.put_in_row.ensures none))
