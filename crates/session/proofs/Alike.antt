-- Lines of which the first 81 bytes are the same are answered the same. Assumes nothing.
use Rattle.std.proofs.Common.{◌≡◌, ℕ, zero, suc, ◌<◌, ◌≤◌, List, [], ◌∷◌, ◌++◌, length, take, Result, Err, refl, sym}
use Rattle.std.proofs.Common.{◌∙◌, ap, subst, inl, inr, arith}
use Rattle.std.proofs.lemmas.Bool.{cases_lt}
use Rattle.std.proofs.lemmas.List.{take_all, length-take}
use Rattle.tariff.specs.declared.refusal.Refusal.{Refusal}
use Rattle.tariff.specs.declared.refusal.Refusal.TheVariants.{LineTooLong}
use Rattle.text.specs.Lines.{but_empty_end}
use Rattle.book.specs.Histories.{Made}
use Rattle.lines.specs.Reading.{Reads}
use Rattle.lines.specs.declared.entry.LineEntry.{LineEntry}
use Rattle.lines.proofs.OneReading.{one_answer}
use Rattle.session.specs.Courses.{Course, begins, goes_on, calls_of_reading}
use Rattle.session.specs.Replies.{reply_text}
use Rattle.session.specs.Lines.{LineTaken}
use Rattle.session.specs.declared.session.Session.{Session}
use Rattle.text.proofs.Joins.{before_first}

abbrev pub Alike : (line other : List ℕ) → Type 0
Alike line other = take 81 line ≡ take 81 other

abbrev pub AllAlike : (lines others : List (List ℕ)) → Type 0
AllAlike [] [] = Unit {0}
AllAlike (line ∷ lines) (other ∷ others) = Alike line other × AllAlike lines others
AllAlike _ _ = ⊥

-- a short line is like itself alone
short_alike : (line other : List ℕ) → length line ≤ 80 → Alike line other → line ≡ other
short_alike line other short alike =
    let whole : take 81 line ≡ line = take_all 81 line (omega arith) in
    let same = ap length alike in
    let few : length other ≤ 81 = omega (arith, length-take 81 line, length-take 81 other, same) in
    sym whole ∙ (alike ∙ take_all 81 other few)

long_alike : (line other : List ℕ) → 80 < length line → Alike line other → 80 < length other
long_alike line other long alike = omega (arith, length-take 81 line, length-take 81 other, ap length alike)

reads_alike : (line other : List ℕ) (result : Result LineEntry Refusal) → Alike line other → Reads line result → Reads other result
reads_alike line other result alike reads =
    elim (cases_lt 80 (length line)) [
      | inl long ↦ (
          let same = one_answer line (Err LineTooLong) result long reads in
          subst (Reads other) same (long_alike line other long alike))
      | inr short ↦ subst (λ l. Reads l result) (short_alike line other (omega arith) alike) reads
    ]

pub takes_alike : (line other : List ℕ) (result : Result LineEntry Refusal) (before left : Session) → Alike line other
    → LineTaken line result before left → LineTaken other result before left
takes_alike line other result before left alike taken =
    record { reading = taken.reading; reads = reads_alike line other taken.reading alike taken.reads; applied = taken.applied }

-- some lines and one more, and others like them
pub record Split (lines : List (List ℕ)) (line : List ℕ) (rest all : List (List ℕ)) : Type 0 where
  pub others : List (List ℕ)
  pub other : List ℕ
  pub behind : List (List ℕ)
  pub is : all ≡ others ++ (other ∷ behind)
  pub alike : AllAlike lines others
  pub one_alike : Alike line other
  pub rest_alike : AllAlike rest behind

pub split : (lines : List (List ℕ)) (line : List ℕ) (rest all : List (List ℕ)) → AllAlike (lines ++ (line ∷ rest)) all
    → Split lines line rest all
split [] line rest [] alike = absurd alike
split [] line rest (other ∷ others) alike =
    record { others = []; other = other; behind = others; is = refl; alike = tt; one_alike = alike.0; rest_alike = alike.1 }
split (first ∷ lines) line rest [] alike = absurd alike
split (first ∷ lines) line rest (other ∷ others) alike =
    let s = split lines line rest others alike.1 in
    record {
      others = other ∷ s.others;
      other = s.other;
      behind = s.behind;
      is = ap (λ o. other ∷ o) s.is;
      alike = (alike.0, s.alike);
      one_alike = s.one_alike;
      rest_alike = s.rest_alike;
    }

pub none_alike : (others : List (List ℕ)) → AllAlike [] others → others ≡ []
none_alike [] alike = refl
none_alike (other ∷ others) alike = absurd alike

pub course_alike : (start : Session) (lines others : List (List ℕ)) (replies : List ℕ) (history : List Made) (left : Session)
    → AllAlike lines others → Course start lines replies history left → Course start others replies history left
unfolding takes_alike
course_alike start _ others _ _ _ alike begins = subst (λ ls. Course start ls [] [] start) (sym (none_alike others alike)) begins
course_alike start _ others _ _ _ alike (goes_on lines replies history before course line result left taken) =
    let s = split lines line [] others alike in
    let last : s.others ++ (s.other ∷ []) ≡ others = sym (s.is ∙ ap (λ b. s.others ++ (s.other ∷ b)) (none_alike s.behind s.rest_alike)) in
    let before_alike = course_alike start lines s.others replies history before s.alike course in
    subst (λ ls. Course start ls (replies ++ reply_text left result)
    (calls_of_reading taken.reading result before left taken.applied ++ history) left) last
    (goes_on s.others replies history before before_alike s.other result left
    (takes_alike line s.other result before left s.one_alike taken))

all_alike : (lines : List (List ℕ)) → AllAlike lines lines
all_alike [] = tt
all_alike (line ∷ lines) = (refl, all_alike lines)

take_front : (n : ℕ) (bytes more : List ℕ) → take n (take n bytes ++ more) ≡ take n (bytes ++ more)
take_front zero bytes more = refl
take_front (suc n) [] more = refl
take_front (suc n) (byte ∷ bytes) more = ap (λ rest. byte ∷ rest) (take_front n bytes more)

take_again : (n : ℕ) (bytes : List ℕ) → take n (take n bytes) ≡ take n bytes
take_again zero bytes = refl
take_again (suc n) [] = refl
take_again (suc n) (byte ∷ bytes) = ap (λ rest. byte ∷ rest) (take_again n bytes)

-- what follows the front of a line goes on as what follows the line
pub front_alike : (bytes : List ℕ) (pieces : List (List ℕ)) → AllAlike (before_first (take 81 bytes) pieces) (before_first bytes pieces)
front_alike bytes [] = (take_again 81 bytes, tt)
front_alike bytes (piece ∷ pieces) = (take_front 81 bytes piece, all_alike pieces)

-- what is a line of bytes behind the last line feed
pub end_alike : (bytes : List ℕ) → AllAlike (but_empty_end (take 81 bytes ∷ [])) (but_empty_end (bytes ∷ []))
end_alike [] = tt
end_alike (byte ∷ bytes) = (take_again 81 (byte ∷ bytes), tt)
