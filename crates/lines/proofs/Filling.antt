-- The bytes of values, put one after another.
use Rattle.std.proofs.Common.{◌≡◌, ℕ, ◌+◌, ◌<◌, ◌≤◌, List, [], ◌∷◌, ◌++◌, length, get_or, take, drop, sym, refl, ap}
use Rattle.std.proofs.Common.{◌∙◌, append_assoc, arith}
use Rattle.std.proofs.lemmas.List.{append-nil, take-append-drop, take_more, length-append}
use Rattle.text.specs.Placing.{put_at}
use Rattle.text.proofs.Placing.{put_append}
use Rattle.lines.specs.Texts.{text_of, fields_text}
use Rattle.lines.specs.declared.value.Value.{Value}

fields_append : (vs ws : List Value) → fields_text (vs ++ ws) ≡ fields_text vs ++ fields_text ws
fields_append [] ws = refl
fields_append (v ∷ vs) ws = rw append_assoc (ap (λ rest. 9 ∷ (text_of v ++ rest)) (fields_append vs ws))

module _ (vs : List Value) (i : ℕ) (d : Value) (h : i < length vs) where
  pub fields_more : fields_text (take (i + 1) vs) ≡ fields_text (take i vs) ++ (9 ∷ text_of (get_or vs i d))
  fields_more =
      ap fields_text (take_more vs i d h)
      ∙ (fields_append (take i vs) (get_or vs i d ∷ [])
      ∙ ap (λ x. fields_text (take i vs) ++ (9 ∷ x)) (append-nil (text_of (get_or vs i d))))

  pub length_more : length (fields_text (take (i + 1) vs))
      ≡ length (fields_text (take i vs)) + (1 + length (text_of (get_or vs i d)))
  length_more =
      let both = length-append (fields_text (take i vs)) (9 ∷ text_of (get_or vs i d)) in
      omega (arith, ap length fields_more)

  pub room : length (fields_text (take i vs)) + (1 + length (text_of (get_or vs i d))) ≤ length (fields_text vs)
  room =
      let parts = ap fields_text (take-append-drop (i + 1) vs) in
      let cut = fields_append (take (i + 1) vs) (drop (i + 1) vs) in
      let both = length-append (fields_text (take (i + 1) vs)) (fields_text (drop (i + 1) vs)) in
      omega (arith, length_more, ap length parts, ap length cut)

-- the first values put from a place on, and where they end
abbrev pub PutSoFar : (target : List ℕ) (from : ℕ) (vs : List Value) (i : ℕ) (now : List ℕ) (at : ℕ) → Type 0
PutSoFar target from vs i now at =
    (now ≡ put_at from (fields_text (take i vs)) target) × (at ≡ from + length (fields_text (take i vs)))

pub put_more : (target : List ℕ) (from : ℕ) (vs : List Value) (i : ℕ) (now : List ℕ) (at : ℕ) (new : List ℕ) (end : ℕ)
    (d : Value)
    → i < length vs → from + length (fields_text vs) ≤ length target → PutSoFar target from vs i now at
    → new ≡ put_at at (9 ∷ text_of (get_or vs i d)) now → end ≡ at + (1 + length (text_of (get_or vs i d)))
    → PutSoFar target from vs (i + 1) new end
put_more target from vs i now at new end d h l before e q =
    let enough = room vs i d h in
    let bytes = fields_more vs i d h in
    let within : from + length (fields_text (take i vs)) ≤ length target = omega arith in
    let both = put_append target (fields_text (take i vs)) (9 ∷ text_of (get_or vs i d)) from within in (
      (e ∙ rw (before.0, before.1) both) ∙ ap (λ x. put_at from x target) (sym bytes),
      omega (arith, length_more vs i d h),
    )
