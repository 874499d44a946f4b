-- A session over the text that has come so far. Assumes nothing.
use Rattle.std.proofs.Common.{◌≡◌, ◌≢◌, ℕ, ◌≤◌, List, [], ◌∷◌, ◌++◌, length, take, drop, Option, Ok, Err, Result, refl}
use Rattle.std.proofs.Common.{sym, ◌∙◌, ap, subst, arith}
use Rattle.std.proofs.KnownBytes.{Consumes-nil, Consumes-kept, Consumes-trans}
use Rattle.std.proofs.lemmas.List.{append-nil, append_assoc}
use Rattle.std.specs.Io.KnownBytes.{Consumes, IsAtEnd, Keeps}
use Rattle.std.specs.Result.{IfOk, IsOk}
use Rattle.std.specs.IoError.{error_kind}
use Rattle.std.specs.declared.io.Error.{Error}
use Rattle.std.specs.declared.io.ErrorKind.TheVariants.{Interrupted}
use Rattle.text.specs.Lines.{but_empty_end}
use Rattle.text.specs.Pieces.{cut}
use Rattle.session.specs.Texts.{AllWritten, WentOn, LinesAnswered, EndedAnswered, TextAnswered}
use Rattle.session.specs.declared.serving.Failure.{Failure}
use Rattle.session.specs.declared.serving.Failure.TheVariants.{Reading, Writing}
use Rattle.session.specs.declared.session.Session.{Session}
use Rattle.session.proofs.Alike.{AllAlike, Split, course_alike, end_alike, front_alike, none_alike, split}
use Rattle.session.proofs.Answering.{Went, answered_where, went_none, went_on}
use Rattle.session.proofs.Courses.{course_stands}
use Rattle.text.proofs.Joins.{before_first, cut_front, cut_more}

-- The text that came, in lines that ended and were answered, and a rest, of which the front is held.
pub record SoFar (unread_before unread : Option (List ℕ)) (before left : Session) (written_before written : Option (List ℕ))
    (held : List ℕ) (kept : ℕ) : Type 0 where
  pub text : List ℕ
  pub lines : List (List ℕ)
  pub rest : List ℕ
  pub came : Consumes unread_before unread text
  pub pieces : cut 10 text ≡ lines ++ (rest ∷ [])
  pub went : Went before left written_before written lines
  pub front : take kept held ≡ take 81 rest
  pub few : kept ≤ 81
  pub long : length held ≡ 65536

pub nothing_yet : (unread : Option (List ℕ)) (session : Session) (written : Option (List ℕ)) (held : List ℕ) → length held ≡ 65536
    → SoFar unread unread session session written written held 0
nothing_yet unread session written held long = record {
  text = [];
  lines = [];
  rest = [];
  came = Consumes-nil unread;
  pieces = refl;
  went = went_none session written;
  front = refl;
  few = omega arith;
  long = long;
}

-- the last piece alone may be left out
end_behind : (pieces : List (List ℕ)) (piece : List ℕ) (rest : List (List ℕ))
    → but_empty_end (pieces ++ (piece ∷ rest)) ≡ pieces ++ but_empty_end (piece ∷ rest)
end_behind [] piece rest = refl
end_behind ([] ∷ []) piece rest = refl
end_behind ([] ∷ (next ∷ pieces)) piece rest = ap (λ all. [] ∷ all) (end_behind (next ∷ pieces) piece rest)
end_behind ((byte ∷ bytes) ∷ pieces) piece rest = ap (λ all. (byte ∷ bytes) ∷ all) (end_behind pieces piece rest)

-- what is told of a writing that went well or failed
abbrev pub writing_told : Result (Unit {0}) Error → Result (Unit {0}) Failure
writing_told (Ok done) = Ok done
writing_told (Err error) = Err (Writing error)

all_written : (told : Result (Unit {0}) Error) → AllWritten (writing_told told) → IsOk told
all_written (Ok done) all = refl
all_written (Err error) all = absurd all

went_to_end : (told : Result (Unit {0}) Error) (unread : Option (List ℕ)) (text : List ℕ) (lines : List (List ℕ)) → IsAtEnd unread
    → WentOn (writing_told told) unread text lines []
went_to_end (Ok done) unread text lines end = (end, refl)
went_to_end (Err error) unread text lines end = tt

module _ (unread_before unread : Option (List ℕ)) (before between : Session) (written_before written_between : Option (List ℕ))
    (held : List ℕ) (kept : ℕ) (far : SoFar unread_before unread before between written_before written_between held kept) where
  -- nothing more could be read
  pub stopped : (unread_now : Option (List ℕ)) (error : Error) → error_kind error ≢ Interrupted → Keeps unread unread_now
      → TextAnswered unread_before unread_now before between (Err (Reading error)) written_before written_between
  stopped unread_now error retried keeps = record {
    text = far.text;
    lines = far.lines;
    others = but_empty_end (far.rest ∷ []);
    came = Consumes-kept unread_before unread unread_now far.text far.came keeps;
    in_order = ap but_empty_end far.pieces ∙ end_behind far.lines far.rest [];
    answered = far.went;
    whole = (retried, (far.rest, far.pieces));
    stands = λ unset. course_stands before far.lines far.went.replies far.went.history between unset far.went.course;
  }

  module _ (unread_now : Option (List ℕ)) (left : Session) (written : Option (List ℕ)) where
    -- the reader has no more, and what a line feed did not end was answered
    pub finished : (told : Result (Unit {0}) Error) (line : List ℕ) → line ≡ take kept held → Consumes unread unread_now []
        → IsAtEnd unread_now → LinesAnswered between left (IsOk told) written_between written (but_empty_end (line ∷ []))
        → TextAnswered unread_before unread_now before left (writing_told told) written_before written
    finished told line is came end answered =
        let alike : AllAlike (but_empty_end (line ∷ [])) (but_empty_end (far.rest ∷ [])) =
        subst (λ l. AllAlike (but_empty_end (l ∷ [])) (but_empty_end (far.rest ∷ []))) (sym (is ∙ far.front)) (end_alike far.rest) in
        let last : LinesAnswered between left (IsOk told) written_between written (but_empty_end (far.rest ∷ [])) = record {
          replies = answered.replies;
          history = answered.history;
          writes = answered.writes;
          course = course_alike between _ (but_empty_end (far.rest ∷ [])) answered.replies answered.history left alike answered.course;
        } in
        let all = answered_where before left (IsOk told) (AllWritten (writing_told told)) written_before written
        (far.lines ++ but_empty_end (far.rest ∷ [])) (all_written told)
        (went_on before between left (IsOk told) written_before written_between written far.lines (but_empty_end (far.rest ∷ []))
        far.went last) in
        record {
          text = far.text;
          lines = far.lines ++ but_empty_end (far.rest ∷ []);
          others = [];
          came = subst (Consumes unread_before unread_now) (append-nil far.text)
              (Consumes-trans unread_before unread unread_now far.text [] far.came came);
          in_order = ap but_empty_end far.pieces ∙ (end_behind far.lines far.rest [] ∙ sym (append-nil _));
          answered = all;
          whole = went_to_end told unread_now far.text (far.lines ++ but_empty_end (far.rest ∷ [])) end;
          stands = λ unset. course_stands before _ all.replies all.history left unset all.course;
        }

    module _ {F : Type 0} (told : Result ℕ F) (bytes chunk : List ℕ) (is : bytes ≡ take kept held ++ chunk)
        (came : Consumes unread unread_now chunk) (ended : EndedAnswered bytes between left told written_between written) where
      like : AllAlike (ended.lines ++ (ended.rest ∷ ended.others)) (before_first far.rest (cut 10 chunk))
      like = subst (λ pieces. AllAlike pieces (before_first far.rest (cut 10 chunk)))
          (sym (cut_front 10 far.text chunk far.lines far.rest 81 far.pieces)
          ∙ (ap (λ b. cut 10 (b ++ chunk)) (sym far.front) ∙ (ap (cut 10) (sym is) ∙ ended.pieces)))
          (front_alike far.rest (cut 10 chunk))

      true_lines : Split ended.lines ended.rest ended.others (before_first far.rest (cut 10 chunk))
      true_lines = split ended.lines ended.rest ended.others (before_first far.rest (cut 10 chunk)) like

      true_pieces : cut 10 (far.text ++ chunk) ≡ (far.lines ++ true_lines.others) ++ (true_lines.other ∷ true_lines.behind)
      true_pieces =
          cut_more 10 far.text chunk far.lines far.rest far.pieces
          ∙ (ap (λ pieces. far.lines ++ pieces) true_lines.is
          ∙ sym (append_assoc far.lines true_lines.others (true_lines.other ∷ true_lines.behind)))

      true_answers : LinesAnswered before left (IsOk told) written_before written (far.lines ++ true_lines.others)
      true_answers =
          went_on before between left (IsOk told) written_before written_between written far.lines true_lines.others far.went (record {
            replies = ended.answered.replies;
            history = ended.answered.history;
            writes = ended.answered.writes;
            course = course_alike between ended.lines true_lines.others _ _ left true_lines.alike ended.answered.course;
          })

      -- a reply could not be written
      pub broke_off : (error : Error) → TextAnswered unread_before unread_now before left (Err (Writing error)) written_before written
      broke_off error =
          let all = answered_where before left (IsOk told) ⊥ written_before written (far.lines ++ true_lines.others)
          (λ never. absurd never) true_answers in
          record {
            text = far.text ++ chunk;
            lines = far.lines ++ true_lines.others;
            others = but_empty_end (true_lines.other ∷ true_lines.behind);
            came = Consumes-trans unread_before unread unread_now far.text chunk far.came came;
            in_order = ap but_empty_end true_pieces ∙ end_behind (far.lines ++ true_lines.others) true_lines.other true_lines.behind;
            answered = all;
            whole = tt;
            stands = λ unset. course_stands before _ all.replies all.history left unset all.course;
          }

      -- and where it could, what comes after it is held
      pub goes_further : (from : ℕ) → told ≡ Ok from → (held_now : List ℕ) (kept_now : ℕ) → length held_now ≡ 65536 → kept_now ≤ 81
          → take kept_now held_now ≡ take 81 (drop from bytes)
          → SoFar unread_before unread_now before left written_before written held_now kept_now
      goes_further from ok held_now kept_now long few front =
          let whole = subst (λ r. IfOk r (λ from. (from ≤ length bytes) × (ended.rest ≡ drop from bytes) × (ended.others ≡ []))) ok
          ended.whole in
          let alone : true_lines.behind ≡ [] =
          none_alike true_lines.behind (subst (λ o. AllAlike o true_lines.behind) whole.2 true_lines.rest_alike) in
          record {
            text = far.text ++ chunk;
            lines = far.lines ++ true_lines.others;
            rest = true_lines.other;
            came = Consumes-trans unread_before unread unread_now far.text chunk far.came came;
            pieces = true_pieces ∙ ap (λ behind. (far.lines ++ true_lines.others) ++ (true_lines.other ∷ behind)) alone;
            went = answered_where before left (IsOk told) (Unit {0}) written_before written _ (λ well. subst IsOk (sym ok) refl)
                true_answers;
            front = front ∙ (ap (take 81) (sym whole.1) ∙ true_lines.one_alike);
            few = few;
            long = long;
          }
