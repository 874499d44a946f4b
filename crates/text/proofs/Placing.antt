-- Bytes put in place of others, one part after another.
use Rattle.std.proofs.Common.{◌≡◌, ℕ, ◌+◌, ◌≤◌, List, ◌++◌, length, take, drop, sym, ap, ◌∙◌}
use Rattle.std.proofs.Common.{append_assoc, arith}
use Rattle.std.proofs.lemmas.List.{length-append, length-take}
use Rattle.std.proofs.lemmas.List.{take_at, drop_at, drop-drop}
use Rattle.text.specs.Placing.{put_at}

-- bytes behind what was put
pub put_append : (target xs ys : List ℕ) (place : ℕ) → place + length xs ≤ length target
    → put_at (place + length xs) ys (put_at place xs target) ≡ put_at place (xs ++ ys) target
put_append target xs ys place h =
    let seam = place + length xs in
    let front : List ℕ = take place target ++ xs in
    let back : List ℕ = drop seam target in
    let count : length front ≡ seam = simp (length-append, length-take) (omega arith) in
    let parts : put_at place xs target ≡ front ++ back = sym (append_assoc (take place target) xs back) in
    let before : take seam (put_at place xs target) ≡ front = ap (take seam) parts ∙ take_at front back seam count in
    let behind : drop seam (put_at place xs target) ≡ back = ap (drop seam) parts ∙ drop_at front back seam count in
    let stays : drop (seam + length ys) (put_at place xs target) ≡ drop (seam + length ys) target =
    sym (drop-drop (length ys) seam (put_at place xs target))
    ∙ (ap (drop (length ys)) behind ∙ drop-drop (length ys) seam target) in
    let end : seam + length ys ≡ place + length (xs ++ ys) = simp length-append (omega arith) in
    let last = drop (seam + length ys) target in
    let joined : front ++ (ys ++ last) ≡ take place target ++ ((xs ++ ys) ++ last) = simp append_assoc in
    ap (λ b. b ++ (ys ++ drop (seam + length ys) (put_at place xs target))) before
    ∙ (ap (λ b. front ++ (ys ++ b)) stays
    ∙ (joined ∙ ap (λ n. take place target ++ ((xs ++ ys) ++ drop n target)) end))
