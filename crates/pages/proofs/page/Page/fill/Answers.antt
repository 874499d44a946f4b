use Rattle.std.proofs.Common.{◌≡◌, length, rules, arith}
use Rattle.std.proofs.lemmas.Grind.{common_steps}
use Rattle.pages.specs.Pages.{joined}
use Rattle.pages.proofs.Rows.{OfTwelve, page_of_rows}
use Rattle.pages.proofs.page.Page.fill.Goals as goal

pub returns-clause-value : goal.returns-clause-value
returns-clause-value g c =
    let count : length c.args.table.now ≡ 12 = search rules in
    let twelve : OfTwelve c.args.table.now = λ place l. c.loop-seller.invariant.rows place (omega arith) in
    let whole : c.loop-seller.self.entries.now ≡ joined c.args.table.now = grind (arith, common_steps) in
    λ none seller buyer l m. rw whole (page_of_rows none c.args.table.now count twelve seller buyer l m)
