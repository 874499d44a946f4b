use Rattle.std.proofs.Common.{◌≡◌, suc, sym, ap, ap₂, ◌∙◌, ◌+ℤ◌, arith}
use Rattle.tariff.specs.declared.blocks.Block.TheVariants.{Heavy, Light}
use Rattle.tally.specs.Statements.{net}
use Rattle.book.specs.Payments.{statement_in}
use Rattle.book.proofs.Netting.{pool_net, party_net}
use Rattle.book.proofs.Summing.{added}
use Rattle.book.proofs.book.closing.netting.net.Goals as goal

pub table_to_pool-requires-clause-small : goal.table_to_pool-requires-clause-small
table_to_pool-requires-clause-small c = c.requires.small Heavy

pub table_to_pool-requires-in-None-clause-small : goal.table_to_pool-requires-in-None-clause-small
table_to_pool-requires-in-None-clause-small c = c.requires.small Light

pub table_to_party-requires-clause-small : goal.table_to_party-requires-clause-small
table_to_party-requires-clause-small c = c.requires.small Heavy

pub table_to_party-requires-in-Some-clause-small : goal.table_to_party-requires-in-Some-clause-small
table_to_party-requires-in-Some-clause-small c = c.requires.small Light

pub returns-in-None-clause-value : goal.returns-in-None-clause-value
returns-in-None-clause-value c =
    let statement = statement_in c.args.heavy.now c.args.light.now in
    let pool : c.args.account ≡ 0 = omega arith in
    added c.table_to_pool.result c.table_to_pool-in-None.result (omega arith) (omega arith)
    ∙ ap₂ ◌+ℤ◌ c.table_to_pool.ensures.value c.table_to_pool-in-None.ensures.value
    ∙ sym (pool_net c.args.parties statement) ∙ ap (net c.args.parties statement) (sym pool)

pub returns-in-Some-clause-value : goal.returns-in-Some-clause-value
returns-in-Some-clause-value c =
    let statement = statement_in c.args.heavy.now c.args.light.now in
    let party : c.args.account ≡ suc c.in-Some.place = omega arith in
    added c.table_to_party.result c.table_to_party-in-Some.result (omega arith) (omega arith)
    ∙ ap₂ ◌+ℤ◌ (rw c.at-party.ensures at c.table_to_party.ensures.value) (rw c.at-party.ensures at c.table_to_party-in-Some.ensures.value)
    ∙ sym (party_net c.args.parties statement c.in-Some.place) ∙ ap (net c.args.parties statement) (sym party)
