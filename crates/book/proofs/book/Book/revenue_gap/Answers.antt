use Rattle.book.proofs.Lacking.{differences_kept}
use Rattle.book.proofs.book.Book.revenue_gap.Goals as goal

pub returns : goal.returns
returns c =
    let kept =
    differences_kept c.revenue.result c.settlement.result c.credits.result
    c.revenue.ensures.size c.settlement.ensures.size c.credits.ensures.size in
    rw (kept, c.revenue.ensures.value, c.settlement.ensures.value, c.credits.ensures.value)
