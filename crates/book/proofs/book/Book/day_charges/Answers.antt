use Rattle.std.proofs.Common.{◌≡◌, ℕ, ◌≤◌, suc, List, [], ◌∙◌, sym, subst, rules, arith}
use Rattle.tally.proofs.Numbering.{total_none}
use Rattle.book.specs.Books.{state_of}
use Rattle.book.specs.CutTables.{HasCuts, SmallCuts, rows_of}
use Rattle.book.specs.declared.cut_table.CutTable.{CutTable}
use Rattle.book.specs.declared.cut_table.CutTable.TheVariants.{Cuts}
use Rattle.book.specs.Records.{in_row}
use Rattle.book.proofs.Blanks.{at_row}
use Rattle.book.proofs.Steps.{total_step}
use Rattle.book.proofs.Payees.{day_none, day_same}
use Rattle.book.proofs.book.Book.day_charges.Goals as goal

pub loop-hour-init : goal.loop-hour-init
loop-hour-init c = record { sum = sym (total_none _); small = omega arith }

-- no entry is large
small_row : (cuts : CutTable) (rows : List (List ℕ)) → cuts ≡ Cuts rows → SmallCuts (rows_of cuts) → (hour buyer : ℕ)
    → in_row 0 rows hour buyer ≤ 4000000000000
small_row cuts rows is = subst (λ (t : CutTable). SmallCuts (rows_of t)) is

pub total-all-requires-clause-small : goal.total-all-requires-clause-small
total-all-requires-clause-small c = small_row _ _ c.in-Cuts.is c.requires (suc c.loop-hour.hour)

pub overflow_add-all : goal.overflow_add-all
overflow_add-all c =
    let more = c.total-all.ensures.size 4000000000000 (small_row _ _ c.in-Cuts.is c.requires (suc c.loop-hour.hour)) in
    search (rules, more)

pub loop-hour-preserved : goal.loop-hour-preserved
loop-hour-preserved c = record {
  sum = total_step _ c.loop-hour.hour _ _ c.loop-hour.invariant.sum
      (rw c.parties.ensures.value at c.total-all.ensures.value);
  small =
      let more = c.total-all.ensures.size 4000000000000 (small_row _ _ c.in-Cuts.is c.requires (suc c.loop-hour.hour)) in
      omega (arith, more);
}

pub returns-in-Nothing-clause-value : goal.returns-in-Nothing-clause-value
returns-in-Nothing-clause-value c = λ prices seller has.
    day_none (state_of c.args.self.now) [] (at_row 0 0 0)
    ∙ day_same (state_of c.args.self.now) prices seller []
    (subst (λ (t : CutTable). HasCuts (state_of c.args.self.now) prices seller (rows_of t)) c.in-Nothing.is has)

pub returns-after-loop-hour-clause-value : goal.returns-after-loop-hour-clause-value
returns-after-loop-hour-clause-value c = λ prices seller has.
    let e : c.loop-hour.hour ≡ 24 = omega arith in
    rw e at c.loop-hour.invariant.sum ∙ day_same (state_of c.args.self.now) prices seller c.in-Cuts.rows
    (subst (λ (t : CutTable). HasCuts (state_of c.args.self.now) prices seller (rows_of t)) c.in-Cuts.is has)
