use Rattle.book.proofs.Entering.{run_on}
use Rattle.book.proofs.two_rules.by_two_rules.Goals as goal

pub returns-clause-calls : goal.returns-clause-calls
returns-clause-calls g c =
    let first = c.enter-told.ensures.enters in
    let second = c.enter.ensures.enters in
    record {
      between = c.enter-told.new.self;
      heavy_between = c.enter-told.new.statement.heavy.now.entries.now;
      light_between = c.enter-told.new.statement.light.now.entries.now;
      first = first;
      second = second;
      whole = λ set_up start history run. second.whole set_up start _ (run_on first.did run);
    }
