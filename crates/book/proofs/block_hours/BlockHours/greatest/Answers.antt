use Rattle.std.proofs.Common.{◌≡◌, suc, max, sym, ap, ◌∙◌, rules, arith}
use Rattle.tally.specs.Numbered.{greatest}
use Rattle.tally.proofs.Numbering.{greatest_none}
use Rattle.book.specs.Records.{at}
use Rattle.book.proofs.Steps.{greatest_step}
use Rattle.book.proofs.block_hours.BlockHours.greatest.Goals as goal

pub loop-index-init : goal.loop-index-init
loop-index-init g c = λ f h. sym (greatest_none _)

pub loop-index-preserved : goal.loop-index-preserved
loop-index-preserved g c = λ f h.
    let e : c.max-greatest.result ≡ max c.loop-index.greatest c.figure.result = search rules in
    e ∙ greatest_step _ c.loop-index.index _ _ (c.loop-index.invariant f h) (rw c.at.ensures at (h _ _ c.figure.ensures))

pub returns : goal.returns
returns g c = λ f h.
    let e : c.loop-index.index ≡ c.args.self.now.count = omega arith in
    c.loop-index.invariant f h ∙ ap (greatest (λ k. f (suc (at 0 c.args.self.now.places k)))) e
