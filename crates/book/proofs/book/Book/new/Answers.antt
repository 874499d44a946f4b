use Rattle.std.proofs.Common.{pos, subst, ap, ◌∙◌, to_z-of_z}
use Rattle.tally.specs.States.{Proper, fresh}
use Rattle.book.proofs.Beginning.{Blank, begun_led, begun_state}
use Rattle.book.proofs.Blanks.{get_or_same}
use Rattle.book.proofs.book.Book.new.Goals as goal

none : (c : goal.After-fresh) → Blank c.none.result c.fresh.result
none c = record {
  number = c.none.ensures.number;
  is_open = c.none.ensures.is_open;
  kind = c.none.ensures.kind;
  hours = c.none.ensures.hours;
  figures = c.fresh.ensures;
}

pub invariant_of-result : goal.invariant_of-result
invariant_of-result c = record {
  led = begun_led c.in_ok-pool.pool c.none.result c.fresh.result _ (none c) c.none.ensures.laid c.in_ok-pool.ensures.proper
      (λ account. get_or_same 13 account (pos 0));
}

pub returns-clause-begun : goal.returns-clause-begun
returns-clause-begun c =
    let same = simp (to_z-of_z, c.ranges.parties, c.ranges.full_rate, c.ranges.step_rate) at c.in_ok-pool.ensures.value in
    record {
      proper = subst Proper same c.in_ok-pool.ensures.proper;
      state = begun_state c.in_ok-pool.pool c.none.result c.fresh.result (none c.before) ∙ ap fresh same;
      balances = λ account. get_or_same 13 account (pos 0);
    }
