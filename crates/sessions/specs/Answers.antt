-- What the lines of a text are answered. Assumes nothing.
use Rattle.std.specs.Prelude.{ℕ, List, [], Some}
use Rattle.text.specs.Lines.{lines_in}
use Rattle.session.specs.Fresh.{IsFresh}
use Rattle.session.specs.Texts.{LinesAnswered}
use Rattle.session.specs.declared.session.Session.{Session}

-- a session that begins with no price and no book answered all lines of the text, and the replies are these
pub record AreAnswers (text answers : List ℕ) : Type 0 where
  pub start : Session
  pub left : Session
  pub fresh : IsFresh start
  pub answered : LinesAnswered start left (Unit {0}) (Some []) (Some answers) (lines_in text)
