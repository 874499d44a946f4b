-- A session over the pieces of a text. Assumes nothing.
use Rattle.std.proofs.Common.{◌≡◌, ℕ, ◌+◌, ◌-◌, ◌<◌, ◌≤◌, List, [], ◌∷◌, ◌++◌, length, take, drop, Option, Ok, Err}
use Rattle.std.proofs.Common.{Result, refl, sym, ◌∙◌, ap, subst, subst₂, arith}
use Rattle.std.proofs.KnownBytes.{Appends-kept, Appends-nil, Appends-trans}
use Rattle.std.proofs.lemmas.List.{append-nil, append_assoc, take_all, length-drop}
use Rattle.std.specs.Io.KnownBytes.{Appends, Keeps}
use Rattle.std.specs.Result.{OnOk, IfOk, IsOk, IsErr}
use Rattle.book.specs.Histories.{Made}
use Rattle.tariff.specs.declared.refusal.Refusal.{Refusal}
use Rattle.lines.specs.declared.entry.LineEntry.{LineEntry}
use Rattle.text.specs.Pieces.{cut, cut_from, end_in}
use Rattle.text.proofs.Cuts.{step, none_past}
use Rattle.text.proofs.Ends.{end_after, end_within}
use Rattle.session.specs.Courses.{Course, begins, goes_on}
use Rattle.session.specs.Replies.{reply_text}
use Rattle.session.specs.Texts.{LinesAnswered, EndedAnswered}
use Rattle.session.specs.Lines.{LineTaken}
use Rattle.session.specs.declared.session.Session.{Session}

-- a course by other spellings of its lines, replies and calls
respelt : (start left : Session) (lines others : List (List ℕ)) (replies other_replies : List ℕ) (history other_history : List Made)
    → lines ≡ others → replies ≡ other_replies → history ≡ other_history
    → Course start lines replies history left → Course start others other_replies other_history left
respelt start left lines others replies other_replies history other_history e f g course =
    subst (λ h. Course start others other_replies h left) g (subst₂ (λ ls rs. Course start ls rs history left) e f course)

where_ok : {V E P : Type 0} (result : Result V E) → OnOk result P → IsOk result → P
where_ok (Ok value) p ok = p
where_ok (Err e) p ok = absurd cc

pub answered_line : {V E : Type 0} (before left : Session) (line : List ℕ) (taken : Result LineEntry Refusal) (result : Result V E)
    (written_before written : Option (List ℕ)) → LineTaken line taken before left
    → OnOk result (Appends written_before written (reply_text left taken))
    → LinesAnswered before left (IsOk result) written_before written (line ∷ [])
answered_line before left line taken result written_before written took writes = record {
  replies = reply_text left taken;
  history = _;
  course = goes_on [] [] [] before begins line taken left took;
  writes = where_ok result writes;
}

-- one course after another
course_both : (start : Session) (first : List (List ℕ)) (told : List ℕ) (made : List Made) (between : Session)
    (lines : List (List ℕ)) (replies : List ℕ) (history : List Made) (left : Session)
    → Course start first told made between → Course between lines replies history left
    → Course start (first ++ lines) (told ++ replies) (history ++ made) left
course_both start first told made between _ _ _ _ one begins =
    subst₂ (λ ls rs. Course start ls rs made between) (sym (append-nil first)) (sym (append-nil told)) one
course_both start first told made between _ _ _ _ one (goes_on lines replies history before course line result left taken) =
    let both = course_both start first told made between lines replies history before one course in
    respelt start left _ _ _ _ _ _ (append_assoc first lines (line ∷ [])) (append_assoc told replies (reply_text left result))
    (sym (append_assoc _ history made))
    (goes_on (first ++ lines) (told ++ replies) (history ++ made) before both line result left taken)

-- so far all went well
abbrev pub Went : (before left : Session) (written_before written : Option (List ℕ)) → List (List ℕ) → Type 0
Went before left written_before written lines = LinesAnswered before left (Unit {0}) written_before written lines

pub went_none : (session : Session) (written : Option (List ℕ)) → Went session session written written []
went_none session written = record { replies = []; history = []; course = begins; writes = λ well. Appends-nil written }

pub went_on : (before between left : Session) (well : Type 0) (written_before written_between written : Option (List ℕ))
    (first lines : List (List ℕ)) → Went before between written_before written_between first
    → LinesAnswered between left well written_between written lines
    → LinesAnswered before left well written_before written (first ++ lines)
went_on before between left well written_before written_between written first lines one two =
    record {
      replies = one.replies ++ two.replies;
      history = two.history ++ one.history;
      course = course_both before first one.replies one.history between lines two.replies two.history left one.course two.course;
      writes = λ went. Appends-trans _ _ _ one.replies two.replies (one.writes tt) (two.writes went);
    }

-- the same lines, where less is known to have gone well
pub answered_where : (before left : Session) (well other : Type 0) (written_before written : Option (List ℕ)) (lines : List (List ℕ))
    → (other → well) → LinesAnswered before left well written_before written lines
    → LinesAnswered before left other written_before written lines
answered_where before left well other written_before written lines so answered = record {
  replies = answered.replies;
  history = answered.history;
  course = answered.course;
  writes = λ went. answered.writes (so went);
}

pub not_both : {V E P : Type 0} (result : Result V E) → IsErr result → IsOk result → P
not_both (Ok value) err ok = absurd cc
not_both (Err e) err ok = absurd cc

pub on_err_all : {V E : Type 0} (P : V → Type 0) (result : Result V E) → IsErr result → IfOk result P
on_err_all P (Ok value) err = absurd cc
on_err_all P (Err e) err = tt

-- the pieces before a place were answered, and the next one ends at another place
pub record Between (bytes : List ℕ) (from end : ℕ) (before left : Session) (written_before written : Option (List ℕ)) : Type 0 where
  pub lines : List (List ℕ)
  pub pieces : cut 10 bytes ≡ lines ++ cut_from 10 bytes from
  pub went : Went before left written_before written lines
  pub within : from ≤ length bytes
  pub order : from ≤ end
  pub ends : end ≡ end_in 10 bytes from

module _ (bytes : List ℕ) (from end : ℕ) (before between : Session) (written_before written_between : Option (List ℕ))
    (here : Between bytes from end before between written_before written_between) where
  abbrev piece : List ℕ
  piece = take (end - from) (drop from bytes)

  next_pieces : cut 10 bytes ≡ (here.lines ++ (piece ∷ [])) ++ cut_from 10 bytes (end + 1)
  next_pieces =
      here.pieces ∙ (ap (λ pieces. here.lines ++ pieces) (step 10 bytes from end here.within here.ends)
      ∙ sym (append_assoc here.lines (piece ∷ []) (cut_from 10 bytes (end + 1))))

  module _ (left : Session) (written : Option (List ℕ)) where
    -- the next piece was answered, too
    pub went_piece : (next : ℕ) (well : Type 0) → well → LinesAnswered between left well written_between written (piece ∷ [])
        → end < length bytes → next ≡ end_in 10 bytes (end + 1) → Between bytes (end + 1) next before left written_before written
    went_piece next well went answered more ends = record {
      lines = here.lines ++ (piece ∷ []);
      pieces = next_pieces;
      went = went_on before between left (Unit {0}) written_before written_between written here.lines (piece ∷ []) here.went
          (answered_where between left well (Unit {0}) written_between written (piece ∷ []) (λ all. went) answered);
      within = omega arith;
      order = rw ends (end_after 10 bytes (end + 1) (omega arith));
      ends = ends;
    }

    -- its reply could not be written
    pub ended_early : {F : Type 0} (well : Type 0) (told : Result ℕ F)
        → LinesAnswered between left well written_between written (piece ∷ []) → end < length bytes → IsErr told
        → EndedAnswered bytes before left told written_before written
    ended_early well told answered more err = record {
      lines = here.lines ++ (piece ∷ []);
      rest = _;
      others = _;
      pieces = next_pieces ∙ ap (λ pieces. (here.lines ++ (piece ∷ [])) ++ pieces) (step 10 bytes (end + 1) _ (omega arith) refl);
      answered = answered_where before left well (IsOk told) written_before written (here.lines ++ (piece ∷ [])) (not_both told err)
          (went_on before between left well written_before written_between written here.lines (piece ∷ []) here.went answered);
      whole = on_err_all _ told err;
    }

  -- nothing ends the last piece, and what was written was handed on
  module _ (written : Option (List ℕ)) (keeps : Keeps written_between written) (last : length bytes ≤ end) where
    only : cut_from 10 bytes from ≡ drop from bytes ∷ []
    only =
        let at_end : end ≡ length bytes = omega (arith, last, end_within 10 bytes from, here.ends) in
        step 10 bytes from end here.within here.ends
        ∙ (ap (λ rest. piece ∷ rest) (none_past 10 bytes (end + 1) (omega (arith, at_end)))
        ∙ ap (λ p. p ∷ []) (take_all (end - from) (drop from bytes) (omega (arith, at_end, length-drop from bytes))))

    pub ended_as : {F : Type 0} (told : Result ℕ F)
        → IfOk told (λ place. (place ≤ length bytes) × (drop from bytes ≡ drop place bytes) × (◌≡◌ {A = List (List ℕ)} [] []))
        → EndedAnswered bytes before between told written_before written
    ended_as told whole = record {
      lines = here.lines;
      rest = drop from bytes;
      others = [];
      pieces = here.pieces ∙ ap (λ pieces. here.lines ++ pieces) only;
      answered = record {
        replies = here.went.replies;
        history = here.went.history;
        course = here.went.course;
        writes = λ well. Appends-kept written_before written_between written here.went.replies (here.went.writes tt) keeps;
      };
      whole = whole;
    }
