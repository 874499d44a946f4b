use Rattle.book.proofs.book.Book.part_at.Goals as goal

pub returns-then-eq-clause-size : goal.returns-then-eq-clause-size
returns-then-eq-clause-size c = rw (c.get_in_row.ensures 0) (rw (← c.place.ensures.value) at (c.requires c.args.hour c.args.buyer))
