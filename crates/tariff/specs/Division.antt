-- Dividing an amount among claims: when a rule refuses, the law that every rule keeps, and what one call does. Assumes nothing.
use Rattle.std.specs.Prelude.{◌≡◌, ℕ, ◌+◌, ◌-◌, ◌*◌, ◌<◌, Bool, ◌&&◌, ◌||◌, List, length, sum, count_by, ◌==◌, nat_le, nat_lt, slice_index}
use Rattle.std.specs.List.{list_all}
use Rattle.tariff.specs.Answers.{Answer, granted, denied, ◌then◌, require, if_granted}
use Rattle.tariff.specs.declared.refusal.Refusal.TheVariants.{ShareLists, DivisionFigure, NoClaims, TooManyClaims}

-- what a rule means: from an amount and claims to shares
abbrev pub Division : Type 0
Division = ℕ → List ℕ → List ℕ

-- how many places there are at most, and how large a total and a claim are
abbrev pub most_places : ℕ
most_places = 12

abbrev pub most_total : ℕ
most_total = 1000000000000

abbrev pub most_claim : ℕ
most_claim = 500000

abbrev pub all_within : List ℕ → Bool
all_within claims = list_all (λ claim. nat_le claim most_claim) claims

-- how many claims are above 0
abbrev pub above_zero : List ℕ → ℕ
above_zero claims = count_by (λ claim. nat_lt 0 claim) claims

-- The answer of a rule that takes `most` claims above 0, where there are so many places for shares. In this order:
-- equal lists of not too many places; a total and claims within their limits; a claim above 0 where the total is; no more
-- claims above 0 than the rule takes.
abbrev pub division_answer : (most total : ℕ) (claims : List ℕ) (places : ℕ) → Answer
division_answer most total claims places =
    require (length claims == places && nat_le places most_places) ShareLists
    then require (nat_le total most_total && all_within claims) DivisionFigure
    then require (total == 0 || nat_lt 0 (sum claims)) NoClaims
    then require (nat_le (above_zero claims) most) (TooManyClaims (above_zero claims) most)

-- what a rule that takes `most` claims above 0 accepts
abbrev pub Accepted : (most total : ℕ) → List ℕ → Type 0
Accepted most total claims = division_answer most total claims (length claims) ≡ granted

-- |a − b|
abbrev pub gap : ℕ → ℕ → ℕ
gap a b = (a - b) + (b - a)

-- The law. Shares are whole and not negative, being numbers. With s the share and w the claim at a place, W the sum
-- of the claims and T the total: |s × W − T × w| < W, so each share lies within one unit of its exact part.
pub record Lawful (total : ℕ) (claims shares : List ℕ) : Type 0 where
  pub places : length shares ≡ length claims
  pub adds : sum shares ≡ total
  pub near : 0 < sum claims → (i : ℕ) → i < length claims
      → gap (slice_index shares i * sum claims) (total * slice_index claims i) < sum claims
  pub none : sum claims ≡ 0 → total ≡ 0 → (i : ℕ) → i < length claims → slice_index shares i ≡ 0

-- a division that keeps the law wherever a rule that takes `most` claims above 0 accepts
abbrev pub LawfulRule : ℕ → Division → Type 0
LawfulRule most division = (total : ℕ) (claims : List ℕ) → Accepted most total claims → Lawful total claims (division total claims)

-- how a rule moves its meaning: from what it was, by a division of a total among claims, to what it may become
abbrev pub Moves : Type 1
Moves = Division → ℕ → List ℕ → Division → Type 0

-- the meaning of a rule that never moves it
abbrev pub Unmoved : Moves
Unmoved before total claims after = after ≡ before

-- the meaning after a call: moved as the rule states where it is granted, else as it was
abbrev pub Moved : Moves → Answer → Division → ℕ → List ℕ → Division → Type 0
Moved moves granted before total claims after = moves before total claims after
Moved moves (denied number first second) before total claims after = after ≡ before

-- One call of a rule that takes `most` claims above 0 and moves its meaning by `moves`: the meaning and the list of
-- shares before it, its answer to a total and claims, the list of shares and the meaning after it.
pub record Divided (most : ℕ) (moves : Moves) (before : Division) (total : ℕ) (claims old : List ℕ) (answer : Answer) (new : List ℕ)
    (after : Division) : Type 0 where
  pub answers : answer ≡ division_answer most total claims (length old)
  pub shares : new ≡ if_granted answer (before total claims) old
  pub moved : Moved moves answer before total claims after
