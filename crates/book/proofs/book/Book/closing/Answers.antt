use Rattle.std.proofs.Common.{◌≡◌, ◌∙◌, ℕ, ◌<◌, sym, ap, subst, length, rules}
use mathlib.Core.Logic.{◌⊎◌}
use Rattle.tariff.specs.Answers.{told, granted, refused}
use Rattle.tariff.specs.declared.blocks.Block.{Block}
use Rattle.tally.specs.AccountLaws.{no_payment}
use Rattle.tally.specs.DayPrices.{DayPrices, needed_prices}
use Rattle.tally.specs.MakeWhole.{sharings_answer}
use Rattle.tally.specs.Statements.{statement_of}
use Rattle.book.specs.Books.{state_of}
use Rattle.book.specs.PricedDays.{prices_in}
use Rattle.book.specs.Sharing.{shares_in}
use Rattle.book.proofs.ClosingTests.{last_answer, settled_by, shares_small, tables_same}
use Rattle.book.proofs.Facts.{absent_of}
use Rattle.book.proofs.book.Book.closing.Goals as goal

pub returns-in_err-shares-clause-answer : goal.returns-in_err-shares-clause-answer
returns-in_err-shares-clause-answer g c =
    let state = state_of c.args.self.now in
    let tables = g.S.PriceSource.tables c.args.source.now in
    let most = g.R.DivisionRule.LIMIT in
    let t : told c.from_residual-in_err-shares.result ≡ refused c.in_err-shares.field-0.0 = search rules in
    t ∙ last_answer state tables most (length c.args.statement.now.heavy.now.entries.now) (length c.args.statement.now.light.now.entries.now) _
    c.in_ok-check.ensures c.in_ok-require_open.ensures c.in_ok-prices.ensures.answer
    (c.in_err-shares.ensures.answer ∙ ap (λ (p : DayPrices). sharings_answer state p most) c.in_ok-prices.ensures.value)

pub settle-requires-clause-shares : goal.settle-requires-clause-shares
settle-requires-clause-shares g c =
    shares_small c.args.self.now c.in_ok-prices.prices g.R.DivisionRule.LIMIT g.R.DivisionRule.moves _ _ c.in_ok-shares.shares.heavy
    c.in_ok-shares.shares.light
    (sym c.in_ok-shares.ensures.answer) c.in_ok-shares.ensures.shared

pub returns-clause-answer : goal.returns-clause-answer
returns-clause-answer g c =
    let state = state_of c.args.self.now in
    let most = g.R.DivisionRule.LIMIT in
    last_answer state (g.S.PriceSource.tables c.args.source.now) most
    (length c.args.statement.now.heavy.now.entries.now) (length c.args.statement.now.light.now.entries.now) granted
    c.in_ok-check.ensures c.in_ok-require_open.ensures c.in_ok-prices.ensures.answer
    (c.in_ok-shares.ensures.answer ∙ ap (λ (p : DayPrices). sharings_answer state p most) c.in_ok-prices.ensures.value)

pub returns-clause-settled : goal.returns-clause-settled
returns-clause-settled g c =
    let book = c.args.self.now in
    let state = state_of book in
    let tables = g.S.PriceSource.tables c.args.source.now in
    let most = g.R.DivisionRule.LIMIT in
    let prices = prices_in c.in_ok-prices.prices in
    let needed : prices ≡ needed_prices state tables = c.in_ok-prices.ensures.value in
    let shared = c.in_ok-shares.ensures.shared in
    let meanings = shared.meanings in
    let given = c.in_ok-shares.shares in
    let limited = g.met.S.PriceSource.limited c.args.source.now in
    let absent = subst (λ (p : DayPrices). (block : Block) (seller buyer : ℕ) → 0 < seller
    → (state.set_up.parties < seller) ⊎ (state.set_up.parties < buyer)
    → statement_of state p meanings block seller buyer ≡ no_payment) (sym needed)
    (absent_of book tables most meanings (length c.args.statement.now.heavy.now.entries.now) (length c.args.statement.now.light.now.entries.now)
    (limited, shared.lawful) (sym (returns-clause-answer g c))) in
    settled_by tables most g.R.DivisionRule.moves state prices _ _ given.heavy given.light c.settle.result.heavy c.settle.result.light
    c.settle.result.charges
    needed shared
    (tables_same state prices meanings (shares_in given.heavy given.light) shared.shares absent
    c.settle.result.heavy c.settle.result.light c.settle.ensures.heavy c.settle.ensures.light)
    c.settle.ensures.charges c.settle.ensures.small
