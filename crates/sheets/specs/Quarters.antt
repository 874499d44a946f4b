-- The real-time price of an hour from its four quarter-hour results. Assumes nothing.
use Rattle.std.specs.Prelude.{ℕ, if◌then◌else◌, List, length, ℤ, Some, None, Option, ◌==◌, slice_index_or}
use Rattle.tariff.specs.Answers.{Answer, require, ◌then◌}
use Rattle.tariff.specs.Prices.{average_price}
use Rattle.sheets.specs.Sheets.{price_within}
use Rattle.tariff.specs.declared.refusal.Refusal.TheVariants.{Figure}

-- the average of four results to the nearest cent, halves up, and missing if one of them is
abbrev pub average : Option ℤ → Option ℤ → Option ℤ → Option ℤ → Option ℤ
average None second third fourth = None
average (Some a) None third fourth = None
average (Some a) (Some b) None fourth = None
average (Some a) (Some b) (Some c) None = None
average (Some a) (Some b) (Some c) (Some d) = Some (average_price a b c d)

abbrev pub quarter : List (Option ℤ) → ℕ → Option ℤ
quarter quarters k = slice_index_or quarters k None

-- the average of a list of quarters, which has four or no average
abbrev pub average_of : List (Option ℤ) → Option ℤ
average_of quarters =
    if length quarters == 4 then average (quarter quarters 0) (quarter quarters 1) (quarter quarters 2) (quarter quarters 3) else None

-- the four prices stand at positions 3 to 6 of their entry
abbrev pub quarters_answer : List (Option ℤ) → Answer
quarters_answer quarters =
    require (price_within (quarter quarters 0)) (Figure 3)
    then require (price_within (quarter quarters 1)) (Figure 4)
    then require (price_within (quarter quarters 2)) (Figure 5)
    then require (price_within (quarter quarters 3)) (Figure 6)
