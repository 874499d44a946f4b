-- What a run of the program answers. Assumes nothing.
use Rattle.std.specs.Prelude.{◌≡◌, ℕ, List, [], ◌∷◌, ◌++◌, map, length, slice_get, codes, string_bytes, Option, Some, Result, Ok, Err}
use Rattle.std.specs.List.{flat_map}
use Rattle.std.specs.declared.alloc.Global.{Global}
use Rattle.std.specs.declared.string.String.{String}
use Rattle.text.specs.Lines.{lines_in}
use Rattle.text.specs.Pieces.{cut}
use Rattle.session.specs.Fresh.{IsFresh}
use Rattle.session.specs.Stands.{BookStands}
use Rattle.session.specs.Texts.{LinesAnswered}
use Rattle.session.specs.declared.session.Session.{Session}
use Rattle.holdbook.specs.Arguments.{AskedBy}
use Rattle.holdbook.specs.declared.arguments.Asked.{Asked}
use Rattle.holdbook.specs.declared.arguments.Asked.TheVariants as asked
use Rattle.holdbook.specs.declared.problem.Problem.{Problem}
use Rattle.holdbook.specs.declared.problem.Problem.TheVariants as problem

-- what each input is called: the named files, or else standard input
abbrev pub inputs : (names : List (String Global)) → List (List ℕ)
inputs [] = codes "standard input" ∷ []
inputs (name ∷ names) = map string_bytes (name ∷ names)

-- no reply failed to be written
abbrev pub AllWritten : Result (Unit {0}) Problem → Type 0
AllWritten (Ok done) = Unit {0}
AllWritten (Err (problem.Input name error)) = Unit {0}
AllWritten (Err _) = ⊥

-- The lines of an input's text that were answered: all; or, where the input could not be opened or read, which is told by
-- its name, all that a line feed ended; or the first ones, where a reply could not be written.
abbrev pub InputAnswered : (name : List ℕ) → Result (Unit {0}) Problem → (text : List ℕ) (lines : List (List ℕ)) → Type 0
InputAnswered name (Ok done) text lines = lines ≡ lines_in text
InputAnswered name (Err (problem.Input told error)) text lines =
    (told.now ≡ name) × ((rest : List ℕ) × (cut 10 text ≡ lines ++ (rest ∷ [])))
InputAnswered name (Err (problem.Output error)) text lines = (others : List (List ℕ)) × (lines_in text ≡ lines ++ others)
InputAnswered name (Err _) text lines = ⊥

-- one input of a session
pub record OneAnswered (name : List ℕ) (before left : Session) (result : Result (Unit {0}) Problem)
    (written_before written : Option (List ℕ)) : Type 0 where
  pub text : List ℕ
  pub lines : List (List ℕ)
  pub input : InputAnswered name result text lines
  pub answered : LinesAnswered before left (AllWritten result) written_before written lines

-- The inputs before the last one were answered whole.
pub record BrokeOff (names : List (List ℕ)) (result : Result (Unit {0}) Problem) (texts lines : List (List ℕ)) : Type 0 where
  pub whole : List (List ℕ)
  pub last : List ℕ
  pub name : List ℕ
  pub of_last : List (List ℕ)
  pub all_texts : texts ≡ whole ++ (last ∷ [])
  pub all_lines : lines ≡ flat_map lines_in whole ++ of_last
  pub named : slice_get names (length whole) ≡ Some name
  pub input : InputAnswered name result last of_last

-- all lines of all inputs, or those up to the problem
abbrev pub AllAnswered : (names : List (List ℕ)) (result : Result (Unit {0}) Problem) (texts lines : List (List ℕ)) → Type 0
AllAnswered names (Ok done) texts lines = (length texts ≡ length names) × (lines ≡ flat_map lines_in texts)
AllAnswered names (Err problem) texts lines = BrokeOff names (Err problem) texts lines

-- One session through all inputs, from its beginning. Whatever they were, the guarantee stands of the book that they
-- left.
pub record RunAnswered (names : List (String Global)) (result : Result (Unit {0}) Problem)
    (written_before written : Option (List ℕ)) : Type 0 where
  pub start : Session
  pub left : Session
  pub fresh : IsFresh start
  pub texts : List (List ℕ)
  pub lines : List (List ℕ)
  pub all : AllAnswered (inputs names) result texts lines
  pub answered : LinesAnswered start left (AllWritten result) written_before written lines
  pub stands : BookStands lines answered.history left.book

-- What was done of what the arguments ask for. An option that there is not is told; output may always fail to be written.
abbrev pub Done : Asked → Result (Unit {0}) Problem → Type 0
Done (asked.Unknown option) result = result ≡ Err (problem.Option option)
Done asked.Help (Ok done) = Unit {0}
Done asked.Help (Err (problem.Output error)) = Unit {0}
Done asked.Help (Err _) = ⊥
Done (asked.Session names) (Err (problem.Output error)) = Unit {0}
Done (asked.Session names) result = (written_before written : Option (List ℕ)) × RunAnswered names.now result written_before written

pub record Ran (arguments : List (String Global)) (result : Result (Unit {0}) Problem) : Type 0 where
  pub asked : Asked
  pub by : AskedBy arguments asked
  pub done : Done asked result
