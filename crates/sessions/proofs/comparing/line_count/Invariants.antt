use Rattle.std.proofs.Common.{◌≡◌, ◌+◌, ◌≤◌, length, drop, if◌then◌else◌}
use Rattle.text.specs.Lines.{lines_in}
use Rattle.sessions.proofs.Lines.{lines_left}
use Rattle.sessions.proofs.comparing.line_count.Given as goal

abbrev pub invariant-loop-byte : goal.invariant-loop-byte
invariant-loop-byte l = record {
  few : l.ended + (if l.goes_on then 1 else 0) ≤ l.byte-index;
  count : length (lines_in l.text) ≡ l.ended + lines_left l.goes_on (drop l.byte-index l.text);
}
