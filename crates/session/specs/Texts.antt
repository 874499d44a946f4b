-- What a session makes of the bytes that a reader gives. Assumes nothing.
use Rattle.std.specs.Prelude.{◌≡◌, ◌≢◌, ℕ, ◌≤◌, List, [], ◌∷◌, ◌++◌, length, drop, Option, None, Result, Ok, Err, IfOk, IsOk}
use Rattle.std.specs.Io.KnownBytes.{Appends, Consumes, IsAtEnd}
use Rattle.std.specs.IoError.{error_kind}
use Rattle.std.specs.declared.io.ErrorKind.TheVariants.{Interrupted}
use Rattle.text.specs.Lines.{lines_in}
use Rattle.text.specs.Pieces.{cut}
use Rattle.book.specs.Histories.{Made}
use Rattle.session.specs.Courses.{Course}
use Rattle.session.specs.Stands.{BookStands}
use Rattle.session.specs.declared.serving.Failure.{Failure}
use Rattle.session.specs.declared.serving.Failure.TheVariants.{Reading, Writing}
use Rattle.session.specs.declared.session.Session.{Session}

-- Some lines were answered, each once and in order; and where all went `well`, the replies were written.
pub record LinesAnswered (before left : Session) (well : Type 0) (written_before written : Option (List ℕ))
    (lines : List (List ℕ)) : Type 0 where
  pub replies : List ℕ
  pub history : List Made
  pub course : Course before lines replies history left
  pub writes : well → Appends written_before written replies

-- Of the pieces of bytes the first ones were answered; where writing went well, all but the last, which begins at a place.
pub record EndedAnswered {E : Type 0} (bytes : List ℕ) (before left : Session) (result : Result ℕ E)
    (written_before written : Option (List ℕ)) : Type 0 where
  pub lines : List (List ℕ)
  pub rest : List ℕ
  pub others : List (List ℕ)
  pub pieces : cut 10 bytes ≡ lines ++ (rest ∷ others)
  pub answered : LinesAnswered before left (IsOk result) written_before written lines
  pub whole : IfOk result (λ from. (from ≤ length bytes) × (rest ≡ drop from bytes) × (others ≡ []))

-- no reply failed to be written, though reading may have failed
abbrev pub AllWritten : Result (Unit {0}) Failure → Type 0
AllWritten (Ok done) = Unit {0}
AllWritten (Err (Reading error)) = Unit {0}
AllWritten (Err (Writing error)) = ⊥

-- To the reader's end all lines were answered; where reading failed, all that a line feed ended. To be interrupted is no
-- failure.
abbrev pub WentOn : Result (Unit {0}) Failure → (unread : Option (List ℕ)) (text : List ℕ) (lines others : List (List ℕ)) → Type 0
WentOn (Ok done) unread text lines others = IsAtEnd unread × (others ≡ [])
WentOn (Err (Reading error)) unread text lines others =
    (error_kind error ≢ Interrupted) × ((rest : List ℕ) × (cut 10 text ≡ lines ++ (rest ∷ [])))
WentOn (Err (Writing error)) unread text lines others = Unit {0}

-- A reader's bytes were read, and of the lines of the text that came the first ones were answered.
pub record TextAnswered (unread_before unread : Option (List ℕ)) (before left : Session) (result : Result (Unit {0}) Failure)
    (written_before written : Option (List ℕ)) : Type 0 where
  pub text : List ℕ
  pub lines : List (List ℕ)
  pub others : List (List ℕ)
  pub came : Consumes unread_before unread text
  pub in_order : lines_in text ≡ lines ++ others
  pub answered : LinesAnswered before left (AllWritten result) written_before written lines
  pub whole : WentOn result unread text lines others
  -- and whatever the text was, the guarantee stands of the book that it left
  pub stands : before.book ≡ None → BookStands lines answered.history left.book
