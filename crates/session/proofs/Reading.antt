-- What a session makes of the bytes that a reader gives. Assumes nothing.
use Rattle.std.proofs.Common.{min, ◌≡◌, ℕ, zero, suc, ◌+◌, ◌-◌, ◌≤◌, List, [], ◌∷◌, ◌++◌, length, take, drop, Option}
use Rattle.std.proofs.Common.{refl, sym, ◌∙◌, ap, subst, inl, inr, arith}
use Rattle.std.proofs.KnownBytes.{Appends-nil}
use Rattle.std.proofs.Math.Seq.{paste, take-append-add}
use Rattle.std.proofs.lemmas.Bool.{cases_lt}
use Rattle.std.proofs.lemmas.List.{take_all, take-append-le, length-take, length-drop, drop-take}
use Rattle.std.proofs.lemmas.List.Edits.{take-paste}
use Rattle.text.specs.Lines.{but_empty_end}
use Rattle.session.specs.Courses.{begins}
use Rattle.session.specs.Texts.{LinesAnswered}
use Rattle.session.specs.declared.session.Session.{Session}

-- no bytes are no line
pub empty_answered : (session : Session) (well : Type 0) (written : Option (List ℕ)) (bytes : List ℕ) → length bytes ≡ 0
    → LinesAnswered session session well written written (but_empty_end (bytes ∷ []))
empty_answered session well written [] none =
    record { replies = []; history = []; course = begins; writes = λ went. Appends-nil written }
empty_answered session well written (byte ∷ bytes) none = absurd (omega arith)

take_less : (n m : ℕ) (bytes : List ℕ) → n ≤ m → take n (take m bytes) ≡ take n bytes
take_less zero m bytes few = refl
take_less (suc n) zero bytes few = absurd (omega arith)
take_less (suc n) (suc m) [] few = refl
take_less (suc n) (suc m) (byte ∷ bytes) few = ap (λ rest. byte ∷ rest) (take_less n m bytes (omega arith))

take_both : (n m : ℕ) (bytes : List ℕ) → take (min m n) bytes ≡ take n (take m bytes)
take_both n m bytes =
    elim (cases_lt n m) [
      | inl l ↦ ap (λ k. take k bytes) (omega arith) ∙ sym (take_less n m bytes (omega arith))
      | inr l ↦ ap (λ k. take k bytes) (omega arith) ∙ sym (take_all n (take m bytes) (omega (arith, length-take m bytes)))
    ]

-- the front of what stands from a place up to another, where it was moved to the beginning
pub front_kept : (bytes : List ℕ) (from to kept : ℕ) → from ≤ to → to ≤ length bytes → kept ≡ min (to - from) 81
    → take kept (paste bytes 0 (drop from bytes) (from + kept - from)) ≡ take 81 (drop from (take to bytes))
front_kept bytes from to kept order within few =
    let moved : from + kept - from ≡ kept = omega arith in
    let start : 0 + kept ≡ kept = omega arith in
    let there : from + (to - from) ≡ to = omega arith in
    let front : take kept (paste bytes 0 (drop from bytes) kept) ≡ take kept (drop from bytes) =
    subst (λ k. take k (paste bytes 0 (drop from bytes) kept) ≡ take kept (drop from bytes)) start
    (take-paste bytes 0 (drop from bytes) kept (omega arith) (omega (arith, length-drop from bytes))) in
    let part : drop from (take to bytes) ≡ take (to - from) (drop from bytes) =
    subst (λ t. drop from (take t bytes) ≡ take (to - from) (drop from bytes)) there (drop-take from (to - from) bytes) in
    rw moved (front ∙ (ap (λ k. take k (drop from bytes)) few ∙ (take_both 81 (to - from) (drop from bytes) ∙ ap (take 81) (sym part))))

-- what was held, and what was read behind it
pub front_stays : (held new rest : List ℕ) (kept : ℕ) → kept ≤ length held → take kept (take kept held ++ (new ++ rest)) ≡ take kept held
front_stays held new rest kept within =
    take-append-le kept (take kept held) (new ++ rest) (omega (arith, length-take kept held)) ∙ take_less kept kept held (omega arith)

pub read_behind : (held new rest : List ℕ) (kept count : ℕ) → kept ≤ length held → count ≤ length new
    → take (kept + count) (take kept held ++ (new ++ rest)) ≡ take kept held ++ take count new
read_behind held new rest kept count within few =
    let long : length (take kept held) ≡ kept = omega (arith, length-take kept held) in
    subst (λ k. take (k + count) (take kept held ++ (new ++ rest)) ≡ take kept held ++ take count new) long
    (take-append-add (take kept held) (new ++ rest) count ∙ ap (λ bytes. take kept held ++ bytes) (take-append-le count new rest few))
