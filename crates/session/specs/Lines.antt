-- What a line does to a session. Assumes nothing.
use Rattle.std.specs.Prelude.{◌≡◌, ℕ, List, Result, Ok, Err, IfOk}
use Rattle.tariff.specs.Answers.{told}
use Rattle.tariff.specs.declared.refusal.Refusal.{Refusal}
use Rattle.lines.specs.Reading.{Reads}
use Rattle.lines.specs.declared.entry.LineEntry.{LineEntry}
use Rattle.session.specs.Entries.{EntryApplied}
use Rattle.session.specs.declared.session.Session.{Session}

-- a line that cannot be read is refused so and changes nothing, and another does what its entry does
abbrev pub ReadingApplied : (reading result : Result LineEntry Refusal) → (before left : Session) → Type 0
ReadingApplied (Err refusal) result before left = (result ≡ Err refusal) × (left ≡ before)
ReadingApplied (Ok entry) result before left = EntryApplied entry before (told result) left × IfOk result (λ taken. taken ≡ entry)

pub record LineTaken (line : List ℕ) (result : Result LineEntry Refusal) (before left : Session) : Type 0 where
  pub reading : Result LineEntry Refusal
  pub reads : Reads line reading
  pub applied : ReadingApplied reading result before left
