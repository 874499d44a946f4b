use Rattle.std.proofs.Common.{◌≡◌, ℕ, suc, ◌∙◌, rules, arith, length-set}
use Rattle.std.proofs.lemmas.List.Edits.{fill_by_more}
use Rattle.tally.specs.MakeWhole.{largest_pair}
use Rattle.book.specs.Books.{state_of}
use Rattle.book.proofs.Claims.{listed_front}
use Rattle.book.proofs.book.Book.claims.Goals as goal

pub loop-place-preserved : goal.loop-place-preserved
loop-place-preserved c =
    let a = c.args in
    let claim : ℕ → ℕ = λ k. largest_pair (state_of a.self.now) a.hours.now.block a.seller (suc k) in
    let here : c.from.result ≡ c.largest_pair.result = search rules in
    record {
      places = simp length-set c.loop-place.invariant.places;
      figures = rw (here ∙ (rw c.at.ensures at c.largest_pair.ensures))
          (fill_by_more claim c.loop-place.claims c.loop-place.place 0 (omega arith) c.loop-place.invariant.figures);
    }

pub returns : goal.returns
returns c =
    let a = c.args in
    let claim : ℕ → ℕ = largest_pair (state_of a.self.now) a.hours.now.block a.seller in
    listed_front claim c.loop-place.claims a.self.now.pool.parties (omega arith)
    (λ k h. c.loop-place.invariant.figures k (omega arith))
