use Rattle.std.proofs.Common.{◌∙◌, ℕ, rules}
use Rattle.tally.specs.MakeWhole.{largest_pair}
use Rattle.tally.specs.Pairs.{pair}
use Rattle.tally.specs.States.{hour_at}
use Rattle.book.specs.Books.{state_of}
use Rattle.book.proofs.Unallotted.{unheld_pair}
use Rattle.book.proofs.book.Book.largest_pair.Goals as goal

pub returns : goal.returns
unfolding largest_pair
returns c =
    let a = c.args in
    let figure : ℕ → ℕ = λ hour. pair (hour_at (state_of a.self.now) hour) a.seller a.buyer in
    c.greatest.ensures figure (λ hour n post. search rules)
    ∙ c.requires.most figure (λ hour isnt. unheld_pair a.self.now hour isnt a.seller a.buyer)
