-- A session before its first line. Assumes nothing.
use Rattle.std.specs.Prelude.{◌≡◌, None}
use Rattle.sheets.specs.DaySheets.{sheet_of}
use Rattle.sheets.specs.Sheets.{opened}
use Rattle.session.specs.declared.session.Session.{Session}

-- the sheet is day 1's with every price missing, and no book is set up
pub record IsFresh (session : Session) : Type 0 where
  pub sheet : sheet_of session.sheet ≡ opened 1 None None
  pub book : session.book ≡ None
