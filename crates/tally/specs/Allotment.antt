-- Allotment: how the requests of an hour are met from offers and surpluses. Assumes nothing.
use Rattle.std.specs.Prelude.{ℕ, ◌+◌, ◌-◌, Bool, if◌then◌else◌, List, neg_ℤ, ◌==◌, nat_le, nat_lt}
use Rattle.tariff.specs.Answers.{Answer, granted, require, ◌then◌}
use Rattle.tariff.specs.Division.{Division, division_answer}
use Rattle.tariff.specs.declared.refusal.Refusal.TheVariants.{AboveSupply}
use Rattle.tally.specs.Hours.{Hour, with_holdings}
use Rattle.tally.specs.Numbered.{total, listed, numbered, positive_part}

-- a positive result is a surplus, a negative one a shortfall
abbrev pub surplus : Hour → ℕ → ℕ
surplus hour party = positive_part (hour.results party)

abbrev pub shortfall : Hour → ℕ → ℕ
shortfall hour party = positive_part (neg_ℤ (hour.results party))

-- an offer counts 0 where its party's request is above 0
abbrev pub counted_offer : Hour → ℕ → ℕ
counted_offer hour party = if nat_lt 0 (hour.requests party) then 0 else hour.offers party

module _ (parties : ℕ) (hour : Hour) where
  -- of all parties together: MW requested, offered and counted, and in surplus
  abbrev pub requested : ℕ
  requested = total hour.requests parties

  abbrev pub offered : ℕ
  offered = total (counted_offer hour) parties

  abbrev pub spare : ℕ
  spare = total (surplus hour) parties

  -- whether the counted offers suffice
  abbrev pub offers_suffice : Bool
  offers_suffice = nat_le requested offered

  -- what the rule divides: all that is requested among the counted offers, where they suffice;
  -- else they are held whole, and the rest is divided among the surpluses
  abbrev pub allot_total : ℕ
  allot_total = if offers_suffice then requested else requested - offered

  abbrev pub allot_claims : List ℕ
  allot_claims = if offers_suffice then listed (counted_offer hour) parties else listed (surplus hour) parties

  abbrev pub held_whole : ℕ → ℕ
  held_whole party = if offers_suffice then 0 else counted_offer hour party

  -- What each party holds after the allot. Where nothing is requested, nothing is held and the rule is not consulted.
  unfoldable pub allotment : Division → ℕ → ℕ
  allotment rule party = if requested == 0 then 0 else held_whole party + numbered (rule allot_total allot_claims) party

  -- the requests stay within the counted offers and surpluses together
  abbrev pub supply_answer : ℕ → Answer
  supply_answer number = require (nat_le requested (offered + spare)) (AboveSupply number (requested - (offered + spare)))

  -- then the rule answers, where it is consulted
  abbrev pub allot_answer : (most number : ℕ) → Answer
  allot_answer most number =
      supply_answer number then (if requested == 0 then granted else division_answer most allot_total allot_claims parties)

-- an hour allotted by a rule
abbrev pub allotted_by : ℕ → Division → Hour → Hour
allotted_by parties rule hour = with_holdings (allotment parties hour rule) hour
