-- Fields that spell values, one after another.
use Rattle.std.proofs.Common.{◌≡◌, ℕ, zero, suc, ◌+◌, ◌<◌, ◌≤◌, List, ◌∷◌, ◌++◌, map, length, get_or, take, set, sym}
use Rattle.std.proofs.Common.{ap, ◌∙◌, append_assoc, arith}
use Rattle.std.proofs.lemmas.List.{take_more, take_more_set, map_push, length-set}
use Rattle.lines.specs.Fits.{FitAll}
use Rattle.lines.specs.Positions.{FirstFailing}
use Rattle.lines.specs.Reading.{Says, Spelt}
use Rattle.lines.specs.Texts.{text_of}
use Rattle.lines.specs.declared.shape.Kind.{Kind}
use Rattle.lines.specs.declared.value.Value.{Value}
use Rattle.lines.proofs.Fitting.{fit_push}

-- the first values fit and spell the first fields, and these fields are left
abbrev pub ReadSoFar : List Kind → (fields : List (List ℕ)) → (i : ℕ) → List Value → (left : List (List ℕ)) → Type 0
ReadSoFar ks fields i vs left =
    FitAll (take i ks) (take i vs) × (fields ≡ map text_of (take i vs) ++ left) × (length vs ≡ 5)

module _ (ks : List Kind) (fields : List (List ℕ)) (i : ℕ) (vs : List Value) (left : List (List ℕ)) where
  pub read_more : (rest : List (List ℕ)) (field : List ℕ) (d k : Kind) (v : Value)
      → i < length ks → i < length vs → k ≡ get_or ks i d → ReadSoFar ks fields i vs left
      → Says k field v → left ≡ field ∷ rest → ReadSoFar ks fields (i + 1) (set vs i v) rest
  read_more rest field d k v l m same before says e = (
    rw (take_more ks i d l, take_more_set vs i v m)
        (fit_push (take i ks) (take i vs) (get_or ks i d) v before.0 (rw same at says.0)),
    rw (take_more_set vs i v m, map_push text_of (take i vs) v, append_assoc)
        (before.1 ∙ ap (λ x. map text_of (take i vs) ++ x) (e ∙ ap (λ x. x ∷ rest) says.1)),
    length-set vs i v ∙ before.2,
  )

-- the field at i is the first that is misspelt
first_misspelt : (ks : List Kind) (fields : List (List ℕ)) (i : ℕ) (vs : List Value) (left : List (List ℕ)) (d : Kind)
    → i < length ks → i ≤ length vs → length fields ≡ length ks
    → FitAll (take i ks) (take i vs) → fields ≡ map text_of (take i vs) ++ left
    → ((field : List ℕ) (rest : List (List ℕ)) → left ≡ field ∷ rest → ¬ Spelt (get_or ks i d) field)
    → FirstFailing Spelt ks fields (suc i)
first_misspelt (k ∷ ks) (field ∷ fields) zero vs left d l m n f e none = none field fields (sym e)
first_misspelt (k ∷ ks) (field ∷ fields) (suc i) (v ∷ vs) left d l m n f e none =
    let here : field ≡ text_of v = cc in
    let behind : fields ≡ map text_of (take i vs) ++ left = cc in
    ((v, (f.0, here)), first_misspelt ks fields i vs left d (omega arith) (omega arith) (omega arith) f.1 behind none)
first_misspelt _ _ i _ left d l m n f e none = absurd (omega arith)

pub misspelt_at : (ks : List Kind) (fields : List (List ℕ)) (i : ℕ) (vs : List Value) (left : List (List ℕ))
    (position : ℕ) (d : Kind)
    → i < length ks → i < length vs → length fields ≡ length ks → position ≡ suc i → ReadSoFar ks fields i vs left
    → ((field : List ℕ) (rest : List (List ℕ)) → left ≡ field ∷ rest → ¬ Spelt (get_or ks i d) field)
    → FirstFailing Spelt ks fields position
misspelt_at ks fields i vs left position d l m n e before none =
    rw e (first_misspelt ks fields i vs left d l (omega arith) n before.0 before.1 none)
