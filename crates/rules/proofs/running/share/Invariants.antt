use Rattle.std.proofs.Common.{◌≡◌, ℕ, ◌<◌, get_or, take, sum}
use Rattle.rules.specs.RunningTotal.{reached, running_share}
use Rattle.rules.proofs.running.share.Given as goal

abbrev pub invariant-loop-i : goal.invariant-loop-i
invariant-loop-i l = record {
  claims_so_far : l.claimed ≡ sum (take l.i l.division.claims.now);
  given_so_far : l.given ≡ reached l.division.total l.division.claims.now l.i;
  written : (k : ℕ) → k < l.i → get_or l.shares k 0 ≡ running_share l.division.total l.division.claims.now k;
}
