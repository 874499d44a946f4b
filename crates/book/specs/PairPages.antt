-- A page with the MW that sellers hold for buyers in an hour. Assumes nothing.
use Rattle.std.specs.Prelude.{◌≡◌, ℕ, ◌<◌, ◌≤◌, ℤ, List}
use Rattle.pages.specs.Pages.{page_at}
use Rattle.tariff.specs.Answers.{Answer, ◌then◌}
use Rattle.tally.specs.Denials.{is_page, day_is_open, is_hour_at, is_allotted}
use Rattle.tally.specs.States.{State}

-- when a page of so many entries is filled with the pairs of an hour
abbrev pub pairs_answer : State → ℤ → ℕ → Answer
pairs_answer state hour count = is_page state count then day_is_open state then is_hour_at state 1 hour
    then is_allotted state hour

-- a page has the pair of each seller and buyer of twelve
abbrev pub HasPairs : ((seller buyer : ℕ) → ℕ) → List ℕ → Type 0
HasPairs pairs entries =
    (seller buyer : ℕ) → 0 < seller → seller ≤ 12 → 0 < buyer → buyer ≤ 12 → page_at 0 entries seller buyer
    ≡ pairs seller buyer
