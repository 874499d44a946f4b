use Rattle.lines.proofs.LineReads.{line_short}
use Rattle.lines.proofs.OneReading.{reads_back, one_answer, first_bytes}
use Rattle.lines.proofs.laws.lines_stand.Goals as goal

pub returns-clause-reads_back : goal.returns-clause-reads_back
returns-clause-reads_back c = reads_back

pub returns-clause-short_lines : goal.returns-clause-short_lines
returns-clause-short_lines c = line_short

pub returns-clause-one_answer : goal.returns-clause-one_answer
returns-clause-one_answer c = one_answer

pub returns-clause-first_bytes : goal.returns-clause-first_bytes
returns-clause-first_bytes c = first_bytes
