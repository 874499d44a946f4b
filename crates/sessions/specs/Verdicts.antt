-- What a verdict on a session says. Assumes nothing.
use Rattle.std.specs.Prelude.{◌≡◌, ℕ, Bool, true, false, List, ◌++◌, codes, length, Result, Ok, Err}
use Rattle.std.specs.Fmt.{decimal}
use Rattle.text.specs.Lines.{lines_in}
use Rattle.sessions.specs.Answers.{AreAnswers}
use Rattle.sessions.specs.Parting.{PartAt, line_at}
use Rattle.sessions.specs.declared.verdict.Verdict.{Verdict}
use Rattle.sessions.specs.declared.verdict.Verdict.TheVariants.{AsExpected, Differs}

-- the answers are those expected, to so many lines of the text; or else they part from them, in that line
abbrev pub Says : Verdict → (text answers expected : List ℕ) → Type 0
Says (AsExpected lines) text answers expected = (answers ≡ expected) × (lines ≡ length (lines_in text))
Says (Differs line) text answers expected =
    (place : ℕ) × PartAt place answers expected × (line ≡ line_at place expected)

-- what is said of the answers to a text
pub record IsJudged (text expected : List ℕ) (verdict : Verdict) : Type 0 where
  pub answers : List ℕ
  pub answered : AreAnswers text answers
  pub says : Says verdict text answers expected

-- a verdict on the answers to some text
abbrev pub IsReplayed : Verdict → Type 0
IsReplayed verdict = (text expected : List ℕ) × IsJudged text expected verdict

-- whether all was as expected
abbrev pub finds_no_fault : Verdict → Bool
finds_no_fault (AsExpected lines) = true
finds_no_fault (Differs line) = false

abbrev pub is_faultless : {E : Type 0} → Result Verdict E → Bool
is_faultless (Ok verdict) = finds_no_fault verdict
is_faultless (Err e) = false

-- what is printed of a verdict
abbrev pub verdict_text : Verdict → List ℕ
verdict_text (AsExpected lines) = decimal lines ++ codes " lines answered as expected"
verdict_text (Differs line) =
    codes "not answered as expected, first in line " ++ decimal line ++ codes " of the answers"
