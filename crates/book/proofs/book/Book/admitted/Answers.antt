use Rattle.std.proofs.lemmas.Result.{err_from_is_err_and}
use Rattle.book.proofs.book.Book.admitted.Goals as goal

pub returns-in_err-admit-clause-answer : goal.returns-in_err-admit-clause-answer
returns-in_err-admit-clause-answer c =
    let p = err_from_is_err_and c.from_residual.result c.from_residual.ensures.1 in
    rw (p.1, p.2, ← c.parties.ensures.value, ← c.hour_record.ensures.value) c.in_err-admit.ensures

pub returns-clause-answer : goal.returns-clause-answer
returns-clause-answer c = rw (← c.parties.ensures.value, ← c.hour_record.ensures.value) c.in_ok-admit.ensures
