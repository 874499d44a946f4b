use Rattle.std.proofs.Common.{◌≡◌, ℕ, ◌<◌, ◌≤◌, pos, ◌+ℤ◌, nat_abs, get_or, sym, ap, subst, rules}
use Rattle.tariff.specs.Answers.{told, refused}
use Rattle.tally.specs.DayPrices.{needed_prices}
use Rattle.tally.specs.Statements.{net}
use Rattle.book.specs.Books.{state_of}
use Rattle.book.specs.Payments.{statement_in}
use Rattle.book.specs.Posting.{SmallStatement}
use Rattle.book.proofs.ClosedBooks.{close_refused, payments_small, balances_fit, closed_led, closed_did}
use Rattle.book.proofs.Testing.{refused≢granted}
use Rattle.book.proofs.book.Book.close_day.Goals as goal

pub returns-in_err-settled-clause-did : goal.returns-in_err-settled-clause-did
returns-in_err-settled-clause-did g c =
    let t : told c.from_residual.result ≡ refused c.in_err-settled.field-0.0 = search rules in
    close_refused (g.S.PriceSource.tables c.args.source.now) g.R.DivisionRule.LIMIT g.R.DivisionRule.moves c.args.self.now _ _
    c.args.statement.now.heavy.now.entries.now c.args.statement.now.light.now.entries.now _ c.in_err-settled.field-0.0
    (g.met.S.PriceSource.limited c.args.source.now) (g.met.R.DivisionRule.lawful c.args.rule.now) t c.in_err-settled.ensures.answer
    (ap g.R.DivisionRule.meaning (c.in_err-settled.ensures.same_rule (refused≢granted c.in_err-settled.field-0.0)))

pub post-requires-clause-small : goal.post-requires-clause-small
post-requires-clause-small g c =
    let settled = c.in_ok-settled.settled in
    subst (λ (n : ℕ). SmallStatement n (statement_in settled.heavy settled.light)) (sym c.parties-parties.ensures.value)
    (payments_small (g.S.PriceSource.tables c.args.source.now) g.R.DivisionRule.LIMIT g.R.DivisionRule.moves c.args.self.now _ _
    settled.heavy settled.light settled.charges c.in_ok-settled.ensures.settled (g.met.S.PriceSource.limited c.args.source.now)
    c.args.statement.now.heavy.now.entries.now c.args.statement.now.light.now.entries.now c.in_ok-settled.ensures.answer)

pub post-requires-clause-fits : goal.post-requires-clause-fits
post-requires-clause-fits g c =
    let book = c.args.self.now in
    let settled = c.in_ok-settled.settled in
    subst (λ (n : ℕ). (account : ℕ) → account ≤ n
    → nat_abs (get_or book.balances account (pos 0) +ℤ net n (statement_in settled.heavy settled.light) account) ≤ 4000000000000000000)
    (sym c.parties-parties.ensures.value)
    (balances_fit (g.S.PriceSource.tables c.args.source.now) g.R.DivisionRule.LIMIT g.R.DivisionRule.moves book _ _
    settled.heavy settled.light settled.charges c.in_ok-settled.ensures.settled (g.met.S.PriceSource.limited c.args.source.now)
    c.args.statement.now.heavy.now.entries.now c.args.statement.now.light.now.entries.now c.in_ok-settled.ensures.answer)

pub invariant_of-self : goal.invariant_of-self
invariant_of-self g c =
    let book = c.args.self.now in
    let settled = c.in_ok-settled.settled in
    let tables = g.S.PriceSource.tables c.args.source.now in
    let by = c.in_ok-settled.ensures.settled in
    let posted = subst (λ (n : ℕ). (account : ℕ) → account ≤ n → get_or c.post.new.balances account (pos 0)
    ≡ get_or book.balances account (pos 0) +ℤ net n (statement_in settled.heavy settled.light) account)
    c.parties-parties.ensures.value c.post.ensures.posted in
    let others = subst (λ (n : ℕ). (account : ℕ) → n < account
    → get_or c.post.new.balances account (pos 0) ≡ get_or book.balances account (pos 0))
    c.parties-parties.ensures.value c.post.ensures.others in
    record {
      led = closed_led tables g.R.DivisionRule.LIMIT g.R.DivisionRule.moves book _ _
          settled.heavy settled.light settled.charges by (g.met.S.PriceSource.limited c.args.source.now)
          c.args.statement.now.heavy.now.entries.now c.args.statement.now.light.now.entries.now c.in_ok-settled.ensures.answer
          c.closed_year-year.result c.post.new.balances
          (c.closed_year-year.ensures (needed_prices (state_of book) tables) by.charged) posted others;
    }

pub returns-clause-did : goal.returns-clause-did
returns-clause-did g c =
    let book = c.args.self.now in
    let settled = c.in_ok-settled.settled in
    let tables = g.S.PriceSource.tables c.args.source.now in
    let by = c.in_ok-settled.ensures.settled in
    let posted = subst (λ (n : ℕ). (account : ℕ) → account ≤ n → get_or c.post.new.balances account (pos 0)
    ≡ get_or book.balances account (pos 0) +ℤ net n (statement_in settled.heavy settled.light) account)
    c.parties-parties.ensures.value c.post.ensures.posted in
    let others = subst (λ (n : ℕ). (account : ℕ) → n < account
    → get_or c.post.new.balances account (pos 0) ≡ get_or book.balances account (pos 0))
    c.parties-parties.ensures.value c.post.ensures.others in
    closed_did tables g.R.DivisionRule.LIMIT g.R.DivisionRule.moves book _ _
    settled.heavy settled.light settled.charges by (g.met.S.PriceSource.limited c.args.source.now)
    c.args.statement.now.heavy.now.entries.now c.args.statement.now.light.now.entries.now c.in_ok-settled.ensures.answer
    c.closed_year-year.result c.post.new.balances
    (c.closed_year-year.ensures (needed_prices (state_of book) tables) by.charged) posted others _
    c.fill.new.self.heavy.now.entries.now c.fill.new.self.light.now.entries.now c.fill.ensures.pages c.fill.ensures.heavy_count c.fill.ensures.light_count
