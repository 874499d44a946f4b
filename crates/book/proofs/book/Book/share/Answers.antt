use Rattle.std.proofs.Common.{◌≡◌, suc, ◌<◌, length, length-set, refl, ◌∙◌, arith}
use Rattle.tally.specs.MakeWhole.{make_whole_claims}
use Rattle.book.specs.Books.{state_of}
use Rattle.book.proofs.Shares.{divisions_none, divisions_more}
use Rattle.book.proofs.book.Book.share.Goals as goal

pub loop-place-init : goal.loop-place-init
loop-place-init g c = record {
  places = refl;
  divided = divisions_none _ _ _ _ _ _ (g.met.R.DivisionRule.lawful c.args.rule.now) _;
}

pub loop-place-preserved : goal.loop-place-preserved
loop-place-preserved g c =
    let n : length c.loop-place.rows ≡ 12 = c.loop-place.invariant.places in
    let l : c.loop-place.place < length c.loop-place.rows = omega arith in
    record {
      places = length-set _ _ _ ∙ n;
      divided =
          divisions_more _ _ _ (λ seller. make_whole_claims (state_of c.args.self.now) c.args.hours.now.block (suc seller)) _ _
          c.loop-place.place c.loop-place.rows _ _ c.share_of.result c.loop-place.invariant.divided l
          (g.met.R.DivisionRule.lawful c.share_of.new.rule) (rw c.at.ensures at c.share_of.ensures.turned)
          (rw c.at.ensures at c.share_of.ensures.shares);
    }

pub share_of-requires-clause-taken : goal.share_of-requires-clause-taken
share_of-requires-clause-taken g c = rw c.at.ensures (c.requires.taken c.loop-place.place (omega arith))
