-- Each line has one answer, and the laws that follow.
use Rattle.std.proofs.Common.{◌≡◌, ◌≢◌, ℕ, ◌<◌, List, length, take, drop, Ok, Err, Result, sym, refl, ap, ◌∙◌, subst, inl, inr, arith}
use Rattle.std.proofs.lemmas.Bool.{cases_lt}
use Rattle.std.proofs.lemmas.List.{length-take, take_all, take_at}
use Rattle.tariff.specs.declared.refusal.Refusal.{Refusal}
use Rattle.tariff.specs.declared.refusal.Refusal.TheVariants.{LineTooLong, UnknownLetter, FieldCount, Misspelt}
use Rattle.lines.specs.Fits.{Writable}
use Rattle.lines.specs.Laws.{ReadsBack, OneAnswer, FirstBytes}
use Rattle.lines.specs.Positions.{FirstFailing}
use Rattle.lines.specs.Reading.{Parts, Spelt, Reads}
use Rattle.lines.specs.Shapes.{letter_of, kinds_of, shape_of}
use Rattle.lines.specs.Texts.{line_of}
use Rattle.lines.specs.Values.{values_of}
use Rattle.lines.specs.declared.entry.LineEntry.{LineEntry}
use Rattle.lines.specs.declared.shape.Shape.{Shape}
use Rattle.lines.proofs.Firsts.{one_first}
use Rattle.lines.proofs.Fitting.{none_misspelt}
use Rattle.lines.proofs.LineReads.{texts_of, line_parts, line_short, text_count, one_letter, one_rest, one_shape, one_entry}

module _ (line : List ℕ) where
  -- a shape that has as many fields rules out that none has
  counted : (s r : Shape) (fs gs : List (List ℕ)) → Parts line (letter_of s) fs → Parts line (letter_of r) gs
      → ((o : Shape) → letter_of o ≡ letter_of s → length fs ≢ length (kinds_of o)) → length gs ≢ length (kinds_of r)
  counted s r fs gs p q none m =
      none r (sym (one_letter line (letter_of s) (letter_of r) fs gs p q))
      (ap length (one_rest line (letter_of s) (letter_of r) fs gs p q) ∙ m)

  -- the first misspelt field is one
  same_place : (s r : Shape) (fs gs : List (List ℕ)) (i j : ℕ)
      → Parts line (letter_of s) fs → Parts line (letter_of r) gs
      → length fs ≡ length (kinds_of s) → length gs ≡ length (kinds_of r)
      → FirstFailing Spelt (kinds_of s) fs i → FirstFailing Spelt (kinds_of r) gs j → i ≡ j
  same_place s r fs gs i j p q m n first other =
      let rest = one_rest line (letter_of s) (letter_of r) fs gs p q in
      let shape = one_shape line s r fs gs p q m n in
      let same : FirstFailing Spelt (kinds_of r) gs i = rw (rest, shape) at first in
      one_first Spelt (kinds_of r) gs i j same other

  -- the line of an entry is read as that entry
  pub read_as : (r : Result LineEntry Refusal) → Reads line r
      → (e : LineEntry) → Writable e → line ≡ line_of e → r ≡ Ok e
  read_as (Ok d) a e h q = ap Ok (one_entry line d e a.0 h a.1 q)
  read_as (Err LineTooLong) a e h q = absurd (omega (arith, line_short e h, ap length q))
  read_as (Err UnknownLetter) a e h q = absurd (a.1 (shape_of e) (texts_of e) (rw q (line_parts e h)))
  read_as (Err FieldCount) a e h q =
      let parts : Parts line (letter_of (shape_of e)) (texts_of e) = rw q (line_parts e h) in
      absurd (counted a.1.0 (shape_of e) a.1.1.0 (texts_of e) a.1.1.1.0 parts a.1.1.1.1 (text_count e h))
  read_as (Err (Misspelt i)) a e h q =
      let parts : Parts line (letter_of (shape_of e)) (texts_of e) = rw q (line_parts e h) in
      let count = text_count e h in
      let texts = one_rest line (letter_of a.1.0) (letter_of (shape_of e)) a.1.1.0 (texts_of e) a.1.1.1.0 parts in
      let shape = one_shape line a.1.0 (shape_of e) a.1.1.0 (texts_of e) a.1.1.1.0 parts a.1.1.1.1 count in
      let first : FirstFailing Spelt (kinds_of (shape_of e)) (texts_of e) i = rw (texts, shape) at a.1.1.1.2 in
      absurd (none_misspelt (kinds_of (shape_of e)) (values_of e) i h first)
  read_as (Err _) a e h q = absurd a

  one_refusal : (x y : Refusal) → Reads line (Err x) → Reads line (Err y) → x ≡ y
  one_refusal LineTooLong LineTooLong g h = refl
  one_refusal LineTooLong UnknownLetter g h = absurd (omega (arith, h.0))
  one_refusal LineTooLong FieldCount g h = absurd (omega (arith, h.0))
  one_refusal LineTooLong (Misspelt j) g h = absurd (omega (arith, h.0))
  one_refusal UnknownLetter LineTooLong g h = absurd (omega (arith, g.0))
  one_refusal UnknownLetter UnknownLetter g h = refl
  one_refusal UnknownLetter FieldCount g h = absurd (g.1 h.1.0 h.1.1.0 h.1.1.1.0)
  one_refusal UnknownLetter (Misspelt j) g h = absurd (g.1 h.1.0 h.1.1.0 h.1.1.1.0)
  one_refusal FieldCount LineTooLong g h = absurd (omega (arith, g.0))
  one_refusal FieldCount UnknownLetter g h = absurd (h.1 g.1.0 g.1.1.0 g.1.1.1.0)
  one_refusal FieldCount FieldCount g h = refl
  one_refusal FieldCount (Misspelt j) g h =
      absurd (counted g.1.0 h.1.0 g.1.1.0 h.1.1.0 g.1.1.1.0 h.1.1.1.0 g.1.1.1.1 h.1.1.1.1)
  one_refusal (Misspelt i) LineTooLong g h = absurd (omega (arith, g.0))
  one_refusal (Misspelt i) UnknownLetter g h = absurd (h.1 g.1.0 g.1.1.0 g.1.1.1.0)
  one_refusal (Misspelt i) FieldCount g h =
      absurd (counted h.1.0 g.1.0 h.1.1.0 g.1.1.0 h.1.1.1.0 g.1.1.1.0 h.1.1.1.1 g.1.1.1.1)
  one_refusal (Misspelt i) (Misspelt j) g h =
      ap Misspelt
      (same_place g.1.0 h.1.0 g.1.1.0 h.1.1.0 i j g.1.1.1.0 h.1.1.1.0 g.1.1.1.1 h.1.1.1.1 g.1.1.1.2 h.1.1.1.2)
  one_refusal _ _ g h = absurd assumption

pub one_answer : OneAnswer
one_answer line (Ok e) q g h = sym (read_as line q h e g.0 g.1)
one_answer line (Err x) (Ok e) g h = read_as line (Err x) g e h.0 h.1
one_answer line (Err x) (Err y) g h = ap Err (one_refusal line x y g h)

pub reads_back : ReadsBack
reads_back e before after n r w a =
    read_as (take n after) r a e w.0 (ap (take n) w.3 ∙ take_at (line_of e) (drop n before) n (sym w.1))

-- of a longer line the first 81 bytes are too long themselves
long_first : (line : List ℕ) (r : Result LineEntry Refusal) → 81 < length line → Reads (take 81 line) r → Reads line r
long_first line (Ok e) h a =
    absurd (omega (arith, line_short e a.0, ap length a.1, length-take 81 line))
long_first line (Err LineTooLong) h a = omega arith
long_first line (Err UnknownLetter) h a = absurd (omega (arith, a.0, length-take 81 line))
long_first line (Err FieldCount) h a = absurd (omega (arith, a.0, length-take 81 line))
long_first line (Err (Misspelt i)) h a = absurd (omega (arith, a.0, length-take 81 line))
long_first line (Err _) h a = absurd a

pub first_bytes : FirstBytes
first_bytes line r a =
    elim (cases_lt 81 (length line)) [
      | inl h ↦ long_first line r h a
      | inr h ↦ subst (λ (x : List ℕ). Reads x r) (take_all 81 line h) a
    ]
