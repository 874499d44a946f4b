-- A division among the first places of a list. Assumes nothing.
use Rattle.std.proofs.Common.{◌≡◌, ℕ, zero, suc, ◌-◌, ◌<◌, ◌≤◌, List, ◌++◌, length, take, drop, refl, sym, ◌∙◌, ap, subst, ⊎_elim}
use Rattle.std.proofs.Common.{length-take-le, arith}
use Rattle.std.proofs.Math.ListN.{replicate}
use Rattle.std.proofs.Math.Path.{fun_ext}
use Rattle.std.proofs.lemmas.Bool.{cases_lt}
use Rattle.std.proofs.lemmas.List.{get_or_past, get_or_append_left, get_or-append_right, drop-replicate, length-replicate}
use Rattle.tariff.specs.Answers.{Answer, granted, if_granted}
use Rattle.tariff.specs.Division.{Division, Divided, Lawful, LawfulRule, Moved, Moves, division_answer}
use Rattle.tally.specs.Numbered.{listed, numbered}
use Rattle.tally.proofs.Numbering.{term_le}
use Rattle.tally.proofs.Shares.{accepted, shares_total, shares_absent}
use Rattle.book.specs.Records.{at}
use Rattle.book.proofs.Blanks.{get_or_same}
use Rattle.book.proofs.Claims.{listed_front}

abbrev zeros : ℕ → List ℕ
zeros m = replicate m 0

-- shares with nothing after them are the shares by number
padded : (shares : List ℕ) (m : ℕ) → at 0 (shares ++ zeros m) ≡ numbered shares
padded shares m = fun_ext by
  where
    by : (k : ℕ) → at 0 (shares ++ zeros m) k ≡ numbered shares k
    by zero = refl
    by (suc i) =
        ⊎_elim
        (λ (l : i < length shares). get_or_append_left shares (zeros m) 0 i l)
        (λ (l : length shares ≤ i).
        get_or-append_right shares (zeros m) (length shares) i 0 refl l ∙ get_or_same m _ 0 ∙ sym (get_or_past shares i 0 l))
        (cases_lt i (length shares))

-- no share of a lawful division passes its amount
share_small : (f : ℕ → ℕ) (n amount : ℕ) (shares : List ℕ) → Lawful amount (listed f n) shares → (party : ℕ)
    → numbered shares party ≤ amount
share_small f n amount shares lawful zero = omega arith
share_small f n amount shares lawful (suc i) =
    ⊎_elim
    (λ (l : i < n). omega (arith, term_le (numbered shares) (suc i) n (omega arith) (omega arith), shares_total f n amount shares lawful))
    (λ (l : n ≤ i). omega (arith, shares_absent f n amount shares lawful (suc i) (omega arith)))
    (cases_lt i n)

-- one call of a rule on the first places of claims and of shares that are all 0
module _ (n : ℕ) (claims : List ℕ) (long : length claims ≡ 12) (few : n ≤ 12)
    {most amount : ℕ} {moves : Moves} {before after : Division} {new : List ℕ} {a : Answer}
    (divided : Divided most moves before amount (take n claims) (take n (zeros 12)) a new after) where
  by_number : Divided most moves before amount (listed (at 0 claims) n) (take n (zeros 12)) a new after
  by_number =
      subst (λ list. Divided most moves before amount list (take n (zeros 12)) a new after)
      (listed_front (at 0 claims) claims n (omega arith) (λ k l. refl)) divided

  pub division_answers : a ≡ division_answer most amount (listed (at 0 claims) n) n
  division_answers =
      by_number.answers ∙ ap (division_answer most amount (listed (at 0 claims) n))
      (length-take-le n (zeros 12) (omega (arith, length-replicate {A = ℕ} 12 0)))

  pub division_moved : Moved moves a before amount (listed (at 0 claims) n) after
  division_moved = by_number.moved

  pub division_shares : a ≡ granted → at 0 (new ++ drop n (zeros 12)) ≡ numbered (before amount (listed (at 0 claims) n))
  division_shares granted? =
      ap (λ rest. at 0 (new ++ rest)) (drop-replicate n 12 0) ∙ padded new (12 - n)
      ∙ ap numbered (subst (λ b. new ≡ if_granted b (before amount (listed (at 0 claims) n)) (take n (zeros 12))) granted? by_number.shares)

  -- no share passes the amount
  pub division_within : LawfulRule most before → a ≡ granted → (party : ℕ) → at 0 (new ++ drop n (zeros 12)) party ≤ amount
  division_within lawful granted? party =
      let e = ap (λ (f : ℕ → ℕ). f party) (division_shares granted?) in
      let ok = sym division_answers ∙ granted? in
      omega (arith, share_small (at 0 claims) n amount _ (accepted most amount before (at 0 claims) n lawful ok) party)
