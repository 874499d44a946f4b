-- Values that fit their kinds.
use Rattle.std.proofs.Common.{◌≡◌, ℕ, zero, suc, ◌+◌, ◌<◌, List, [], ◌∷◌, ◌++◌, map, length, get_or, take, refl, ap, arith}
use Rattle.std.proofs.lemmas.List.{take_more}
use Rattle.lines.specs.Fits.{Fits, FitAll}
use Rattle.lines.specs.Positions.{FirstFailing}
use Rattle.lines.specs.Reading.{Spelt}
use Rattle.lines.specs.Texts.{text_of}
use Rattle.lines.specs.declared.shape.Kind.{Kind}
use Rattle.lines.specs.declared.value.Value.{Value}
use Rattle.lines.proofs.ValueTexts.{same_text}

pub fit_length : (ks : List Kind) (vs : List Value) → FitAll ks vs → length vs ≡ length ks
fit_length [] [] f = refl
fit_length (k ∷ ks) (v ∷ vs) f = ap suc (fit_length ks vs f.1)
fit_length _ _ f = absurd f

pub same_texts : (ks : List Kind) (vs ws : List Value)
    → FitAll ks vs → FitAll ks ws → map text_of vs ≡ map text_of ws → vs ≡ ws
same_texts [] [] [] f g e = refl
same_texts (k ∷ ks) (v ∷ vs) (w ∷ ws) f g e =
    let here : text_of v ≡ text_of w = cc in
    let behind : map text_of vs ≡ map text_of ws = cc in
    let value = same_text k v w f.0 g.0 here in
    let values = same_texts ks vs ws f.1 g.1 behind in
    cc
same_texts _ _ _ f g e = absurd assumption

-- no text of a value that fits is misspelt
pub none_misspelt : (ks : List Kind) (vs : List Value) (p : ℕ) → FitAll ks vs
    → ¬ FirstFailing Spelt ks (map text_of vs) p
none_misspelt (k ∷ ks) (v ∷ vs) (suc zero) f first = first (v, (f.0, refl))
none_misspelt (k ∷ ks) (v ∷ vs) (suc (suc p)) f first = none_misspelt ks vs (suc p) f.1 first.1
none_misspelt _ _ _ f first = absurd assumption

pub fit_push : (ks : List Kind) (vs : List Value) (k : Kind) (v : Value)
    → FitAll ks vs → Fits k v → FitAll (ks ++ (k ∷ [])) (vs ++ (v ∷ []))
fit_push [] [] k v f here = (here, tt)
fit_push (j ∷ js) (w ∷ ws) k v f here = (f.0, fit_push js ws k v f.1 here)
fit_push _ _ k v f here = absurd f

-- the value at i fits too
pub fit_more : (ks : List Kind) (vs : List Value) (i : ℕ) (k : Kind) (v : Value)
    → i < length ks → i < length vs → FitAll (take i ks) (take i vs) → Fits (get_or ks i k) (get_or vs i v)
    → FitAll (take (i + 1) ks) (take (i + 1) vs)
fit_more ks vs i k v l m f here =
    rw (take_more ks i k l, take_more vs i v m)
    (fit_push (take i ks) (take i vs) (get_or ks i k) (get_or vs i v) f here)

-- the value at i is the first that does not fit
first_unfit : (ks : List Kind) (vs : List Value) (i : ℕ) (k : Kind) (v : Value)
    → i < length ks → i < length vs → FitAll (take i ks) (take i vs) → ¬ Fits (get_or ks i k) (get_or vs i v)
    → FirstFailing Fits ks vs (suc i)
first_unfit (j ∷ ks) (w ∷ vs) zero k v l m f here = here
first_unfit (j ∷ ks) (w ∷ vs) (suc i) k v l m f here =
    (f.0, first_unfit ks vs i k v (omega arith) (omega arith) f.1 here)
first_unfit _ _ i k v l m f here = absurd (omega arith)

pub unfit_at : (ks : List Kind) (vs : List Value) (i position : ℕ) (k : Kind) (v : Value)
    → i < length ks → i < length vs → position ≡ suc i
    → FitAll (take i ks) (take i vs) → ¬ Fits (get_or ks i k) (get_or vs i v) → FirstFailing Fits ks vs position
unfit_at ks vs i position k v l m e f here = rw e (first_unfit ks vs i k v l m f here)
