use Rattle.std.proofs.Common.{◌≡◌, pos, [], ◌∙◌, sym, subst, to_z, w64, arith, rules}
use Rattle.tally.proofs.Numbering.{total_z_none}
use Rattle.book.specs.Books.{state_of}
use Rattle.book.specs.CutTables.{HasCuts, SmallCuts, rows_of}
use Rattle.book.specs.declared.cut_table.CutTable.{CutTable}
use Rattle.book.proofs.Blanks.{at_row}
use Rattle.book.proofs.Payees.{payee_none, payee_same}
use Rattle.book.proofs.Steps.{total_z_step}
use Rattle.book.proofs.book.Book.to_payee.Goals as goal

pub loop-hour-init : goal.loop-hour-init
loop-hour-init c = record { sum = sym (total_z_none _); small = omega arith }

pub loop-hour-preserved : goal.loop-hour-preserved
loop-hour-preserved c = record {
  sum = total_z_step _ c.loop-hour.hour _ _ c.loop-hour.invariant.sum (rw c.at.ensures at c.part_at-all.ensures.value);
  small = omega arith;
}

pub part_at-all-requires : goal.part_at-all-requires
part_at-all-requires c = subst (λ (t : CutTable). SmallCuts (rows_of t)) c.in-Cuts.is c.requires.small

pub returns-in-Nothing-clause-value : goal.returns-in-Nothing-clause-value
returns-in-Nothing-clause-value c = λ prices has.
    let none = subst (λ (t : CutTable). HasCuts (state_of c.args.self.now) prices c.args.seller (rows_of t)) c.in-Nothing.is has in
    payee_none (state_of c.args.self.now) [] (at_row 0 0 0) c.args.block c.args.cover c.args.seller c.args.buyer
    ∙ payee_same (state_of c.args.self.now) prices c.args.seller [] none c.args.block c.args.cover
    c.args.buyer (omega arith, omega arith)

pub returns-after-loop-hour-clause-value : goal.returns-after-loop-hour-clause-value
returns-after-loop-hour-clause-value c = λ prices has.
    let cuts = subst (λ (t : CutTable). HasCuts (state_of c.args.self.now) prices c.args.seller (rows_of t)) c.in-Cuts.is has in
    let all : to_z w64 c.loop-hour.all ≡ pos c.loop-hour.all = search rules in
    let e : c.loop-hour.hour ≡ 24 = omega arith in
    all ∙ rw e at c.loop-hour.invariant.sum
    ∙ payee_same (state_of c.args.self.now) prices c.args.seller _ cuts c.args.block c.args.cover
    c.args.buyer (omega arith, omega arith)
