use Rattle.std.proofs.Common.{◌≡◌, ◌-◌, suc, arith}
use Rattle.std.proofs.lemmas.Bool.Decides.{nat_tests}
use Rattle.book.proofs.Sharing.{sharing_counted}
use Rattle.book.proofs.book.Book.lacking_of.Goals as goal

pub returns-then-count-most-clause-answer : goal.returns-then-count-most-clause-answer
returns-then-count-most-clause-answer c =
    let is : suc (c.args.seller - 1) ≡ c.args.seller = omega arith in
    let s =
    rw is at (sharing_counted c.args.self.now c.args.prices.now c.args.hours.now.block (c.args.seller - 1) (omega arith) c.args.most) in
    grind (arith, nat_tests)

pub returns-else-count-most-clause-answer : goal.returns-else-count-most-clause-answer
returns-else-count-most-clause-answer c =
    let is : suc (c.args.seller - 1) ≡ c.args.seller = omega arith in
    let s =
    rw is at (sharing_counted c.args.self.now c.args.prices.now c.args.hours.now.block (c.args.seller - 1) (omega arith) c.args.most) in
    grind (arith, nat_tests)
