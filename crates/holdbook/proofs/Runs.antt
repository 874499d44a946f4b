-- A run of the program, input by input. Assumes nothing.
use Rattle.std.proofs.Common.{◌≡◌, ℕ, zero, suc, ◌+◌, ◌<◌, List, [], ◌∷◌, ◌++◌, map, length, get_or, slice_get, codes}
use Rattle.std.proofs.Common.{string_bytes, Option, Some, Ok, Err, Result}
use Rattle.std.proofs.Common.{refl, sym, ◌∙◌, ap, arith}
use Rattle.std.proofs.lemmas.Grind.{flat_map-append}
use Rattle.std.proofs.lemmas.List.{append-nil, length-append, length-map}
use Rattle.std.specs.List.{flat_map}
use Rattle.std.specs.declared.alloc.Global.{Global}
use Rattle.std.specs.declared.io.Error.{Error}
use Rattle.std.specs.declared.string.String.{String}
use denote.Ref.{Bor}
use Rattle.text.specs.Lines.{lines_in}
use Rattle.session.specs.Fresh.{IsFresh}
use Rattle.session.specs.Texts.{TextAnswered}
use Rattle.session.specs.declared.serving.Failure.{Failure}
use Rattle.session.specs.declared.serving.Failure.TheVariants as failure
use Rattle.session.specs.declared.session.Session.{Session}
use Rattle.session.proofs.Answering.{Went, went_none, went_on}
use Rattle.session.proofs.Courses.{course_stands}
use Rattle.holdbook.specs.Problems.{problem_of}
use Rattle.holdbook.specs.Runs.{AllWritten, OneAnswered, RunAnswered, inputs}
use Rattle.holdbook.specs.declared.problem.Problem.{Problem}
use Rattle.holdbook.specs.declared.problem.Problem.TheVariants as problem

-- what a reader's text was told
pub one_went : (name : List ℕ) (before left : Session) (unread_before unread written_before written : Option (List ℕ))
    → TextAnswered unread_before unread before left (Ok tt) written_before written
    → OneAnswered name before left (Ok tt) written_before written
one_went name before left unread_before unread written_before written one = record {
  text = one.text;
  lines = one.lines;
  input = sym (one.in_order ∙ (ap (λ o. one.lines ++ o) one.whole.1 ∙ append-nil one.lines));
  answered = one.answered;
}

pub one_failed : (name : Bor (List ℕ)) (before left : Session) (unread_before unread written_before written : Option (List ℕ))
    (failed : Failure) → TextAnswered unread_before unread before left (Err failed) written_before written
    → OneAnswered name.now before left (Err (problem_of name failed)) written_before written
one_failed name before left unread_before unread written_before written (failure.Reading error) one =
    record { text = one.text; lines = one.lines; input = (refl, one.whole.1); answered = one.answered }
one_failed name before left unread_before unread written_before written (failure.Writing error) one =
    record { text = one.text; lines = one.lines; input = (one.others, one.in_order); answered = one.answered }

-- so many inputs were answered whole, from a fresh session on
pub record SoFar (count : ℕ) (start left : Session) (written_before written : Option (List ℕ)) : Type 0 where
  pub fresh : IsFresh start
  pub texts : List (List ℕ)
  pub so_many : length texts ≡ count
  pub went : Went start left written_before written (flat_map lines_in texts)

pub begun : (session : Session) (written : Option (List ℕ)) → IsFresh session → SoFar 0 session session written written
begun session written fresh = record { fresh = fresh; texts = []; so_many = refl; went = went_none session written }

module _ (count : ℕ) (start between : Session) (written_before written_between : Option (List ℕ))
    (far : SoFar count start between written_before written_between)
    (name : List ℕ) (left : Session) (written : Option (List ℕ)) where
  -- one input more, answered whole
  pub further : OneAnswered name between left (Ok tt) written_between written → SoFar (count + 1) start left written_before written
  further one = record {
    fresh = far.fresh;
    texts = far.texts ++ (one.text ∷ []);
    so_many = length-append far.texts (one.text ∷ []) ∙ ap (λ n. n + 1) far.so_many;
    went = rw (flat_map-append lines_in far.texts (one.text ∷ []), append-nil (lines_in one.text), sym one.input)
        (went_on start between left (Unit {0}) written_before written_between written (flat_map lines_in far.texts) one.lines
        far.went one.answered);
  }

  -- or not
  pub broke_off : (names : List (String Global)) (told : Problem) → slice_get (inputs names) count ≡ Some name
      → OneAnswered name between left (Err told) written_between written → RunAnswered names (Err told) written_before written
  broke_off names told named one =
      let all = went_on start between left (AllWritten (Err told)) written_before written_between written (flat_map lines_in far.texts)
      one.lines far.went one.answered in
      record {
        start = start;
        left = left;
        fresh = far.fresh;
        texts = far.texts ++ (one.text ∷ []);
        lines = flat_map lines_in far.texts ++ one.lines;
        all = record {
          whole = far.texts;
          last = one.text;
          name = name;
          of_last = one.lines;
          all_texts = refl;
          all_lines = refl;
          named = ap (slice_get (inputs names)) far.so_many ∙ named;
          input = one.input;
        };
        answered = all;
        stands = course_stands start _ all.replies all.history left far.fresh.book all.course;
      }

-- all inputs
pub ended : (names : List (String Global)) (count : ℕ) (start left : Session) (written_before written : Option (List ℕ))
    → SoFar count start left written_before written → count ≡ length (inputs names) → RunAnswered names (Ok tt) written_before written
ended names count start left written_before written far last = record {
  start = start;
  left = left;
  fresh = far.fresh;
  texts = far.texts;
  lines = flat_map lines_in far.texts;
  all = (far.so_many ∙ last, refl);
  answered = far.went;
  stands = course_stands start _ far.went.replies far.went.history left far.fresh.book far.went.course;
}

-- an input that could not be opened
pub unopened : (name : Bor (List ℕ)) (session : Session) (written : Option (List ℕ)) (error : Error)
    → OneAnswered name.now session session (Err (problem.Input name error)) written written
unopened name session written error = record {
  text = [];
  lines = [];
  input = (refl, ([], refl));
  answered = went_none session written;
}

-- standard input alone
pub alone : (names : List (String Global)) (start left : Session) (result : Result (Unit {0}) Problem)
    (written_before written : Option (List ℕ)) → length names ≡ 0 → IsFresh start
    → OneAnswered (codes "standard input") start left result written_before written → RunAnswered names result written_before written
alone [] start left (Ok done) written_before written none fresh one =
    ended [] 1 start left written_before written
    (further 0 start start written_before written_before (begun start written_before fresh) _ left written one) refl
alone [] start left (Err told) written_before written none fresh one =
    broke_off 0 start start written_before written_before (begun start written_before fresh) _ left written [] told refl one
alone (name ∷ names) start left result written_before written none fresh one = absurd (omega arith)

-- a file is an input, at its place
pub named : (names : List (String Global)) (place : ℕ) (d : String Global) → place < length names
    → slice_get (inputs names) place ≡ Some (string_bytes (get_or names place d))
named [] place d within = absurd (omega arith)
named (name ∷ names) place d within = at (name ∷ names) place within
  where
    at : (files : List (String Global)) (i : ℕ) → i < length files
        → slice_get (map string_bytes files) i ≡ Some (string_bytes (get_or files i d))
    at [] i within = absurd (omega arith)
    at (file ∷ files) zero within = refl
    at (file ∷ files) (suc i) within = at files i (omega arith)

pub count_inputs : (names : List (String Global)) → 0 < length names → length (inputs names) ≡ length names
count_inputs [] some = absurd (omega arith)
count_inputs (name ∷ names) some = length-map (name ∷ names) string_bytes
