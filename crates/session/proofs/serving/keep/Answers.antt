use Rattle.std.proofs.Common.{arith}
use Rattle.session.proofs.Reading.{front_kept}
use Rattle.session.proofs.serving.keep.Goals as goal

pub returns-clause-kept : goal.returns-clause-kept
returns-clause-kept c =
    let copied = c.copy_within.ensures.after in
    rw copied (front_kept c.args.held.now c.args.from c.args.to c.min-kept.result c.requires.order
    (omega (arith, c.requires.within, c.told-held)) c.min-kept.ensures)
