use Rattle.tally.specs.States.{set_up_of}
use Rattle.book.proofs.Played.{Playing}
use Rattle.book.proofs.playing.play.Given as goal

abbrev pub invariant-loop-call : goal.invariant-loop-call
invariant-loop-call g l =
    Playing g.S.PriceSource.tables g.R.DivisionRule.LIMIT g.R.DivisionRule.moves g.R.DivisionRule.meaning
    (set_up_of l.fn.parties l.fn.full_rate l.fn.step_rate) l.fn.calls l.calls l.call-index l.book
