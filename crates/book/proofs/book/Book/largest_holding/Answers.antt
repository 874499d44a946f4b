use Rattle.std.proofs.Common.{◌∙◌, ℕ, rules}
use Rattle.tally.specs.Settlement.{largest_holding}
use Rattle.tally.specs.States.{hour_at}
use Rattle.book.specs.Books.{state_of}
use Rattle.book.proofs.Unallotted.{unheld}
use Rattle.book.proofs.book.Book.largest_holding.Goals as goal

pub returns : goal.returns
unfolding largest_holding
returns c =
    let a = c.args in
    let figure : ℕ → ℕ = λ hour. (hour_at (state_of a.self.now) hour).holdings a.seller in
    c.greatest.ensures figure (λ hour n post. search rules)
    ∙ c.requires.most figure (λ hour isnt. unheld a.self.now hour isnt a.seller)
