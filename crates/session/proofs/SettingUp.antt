-- A set-up is granted where no book is set up. Assumes nothing.
use Rattle.std.proofs.Common.{◌≡◌, false, Option, Some, None, refl, subst}
use Rattle.std.specs.Option.{is_some}
use Rattle.tariff.specs.Answers.{Answer, granted, ◌then◌}
use Rattle.book.specs.declared.book.Book.{Book}
use Rattle.session.specs.Entries.{once}

first_once : (book : Option Book) → false ≡ is_some book → granted ≡ once book
first_once None none = refl
first_once (Some book) none = absurd cc

pub first_set_up : (answer : Answer) (book : Option Book) → granted ≡ answer → false ≡ is_some book → granted ≡ answer then once book
first_set_up answer book accepted none = subst (λ a. granted ≡ a then once book) accepted (first_once book none)
