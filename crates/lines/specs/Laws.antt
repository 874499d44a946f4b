-- What reading and writing give each other. Assumes nothing.
use Rattle.std.specs.Prelude.{◌≡◌, ◌≤◌, ℕ, List, length, take, drop, Ok, Result}
use Rattle.tariff.specs.declared.refusal.Refusal.{Refusal}
use Rattle.lines.specs.Fits.{Writable}
use Rattle.lines.specs.Reading.{Reads}
use Rattle.lines.specs.Texts.{line_of}
use Rattle.lines.specs.Writing.{Writes}
use Rattle.lines.specs.declared.entry.LineEntry.{LineEntry}

-- a written entry reads back as itself
abbrev pub ReadsBack : Type 0
ReadsBack = (entry : LineEntry) (before after : List ℕ) (count : ℕ) (r : Result LineEntry Refusal)
    → Writes entry before after (Ok count) → Reads (take count after) r → r ≡ Ok entry

-- no other line reads as that entry
abbrev pub OneLine : Type 0
OneLine = (entry : LineEntry) (line other : List ℕ) → Reads line (Ok entry) → Reads other (Ok entry) → line ≡ other

-- the target behind a written line stays
abbrev pub BehindStays : Type 0
BehindStays = (entry : LineEntry) (before after : List ℕ) (count : ℕ)
    → Writes entry before after (Ok count) → drop count after ≡ drop count before

-- the line of an entry that can be written has at most 80 bytes
abbrev pub ShortLines : Type 0
ShortLines = (entry : LineEntry) → Writable entry → length (line_of entry) ≤ 80

-- each line has one answer
abbrev pub OneAnswer : Type 0
OneAnswer = (line : List ℕ) (r other : Result LineEntry Refusal) → Reads line r → Reads line other → r ≡ other

-- of a line only the first 81 bytes count
abbrev pub FirstBytes : Type 0
FirstBytes = (line : List ℕ) (r : Result LineEntry Refusal) → Reads (take 81 line) r → Reads line r
