-- Pairs: how many MW each seller holds for each buyer, what is deployed of them, delivered and declined. Assumes nothing.
use Rattle.std.specs.Prelude.{ℕ, ◌-◌, min, max, List}
use Rattle.tariff.specs.Answers.{Answer}
use Rattle.tariff.specs.Division.{Division, division_answer}
use Rattle.tally.specs.Hours.{Hour, with_deployment}
use Rattle.tally.specs.Numbered.{total, before, listed, numbered}

-- the MW for which a buyer is served: its whole confirmed request, which is its request at the allot
abbrev pub served : Hour → ℕ → ℕ
served hour buyer = hour.requests buyer

-- what two stretches, from a to b and from c to d, have in common
abbrev pub overlap : (a b c d : ℕ) → ℕ
overlap a b c d = min b d - max a c

-- Holdings are laid end to end in the order of sellers, and the MW served in the order of buyers. A party's stretch
-- begins where the one before it ends. A pair's MW is the overlap of the seller's stretch and the buyer's.
unfoldable pub pair : Hour → (seller buyer : ℕ) → ℕ
pair hour seller buyer =
    overlap (before hour.holdings seller) (total hour.holdings seller) (before (served hour) buyer) (total (served hour) buyer)

-- a buyer's pairs, by which its deployment is divided among the sellers
abbrev pub pairs_of : ℕ → Hour → ℕ → List ℕ
pairs_of parties hour buyer = listed (λ seller. pair hour seller buyer) parties

abbrev pub deploy_answer : ℕ → Hour → (most buyer mw : ℕ) → Answer
deploy_answer parties hour most buyer mw = division_answer most mw (pairs_of parties hour buyer) parties

-- an hour with a buyer's deployment divided by a rule
abbrev pub deployed_by : ℕ → Division → (buyer mw : ℕ) → Hour → Hour
deployed_by parties rule buyer mw hour = with_deployment buyer (numbered (rule mw (pairs_of parties hour buyer))) hour

-- delivered is deployed less missed; declined is held less deployed
abbrev pub delivered : Hour → (seller buyer : ℕ) → ℕ
delivered hour seller buyer = hour.deployed seller buyer - hour.missed seller buyer

abbrev pub declined : Hour → (seller buyer : ℕ) → ℕ
declined hour seller buyer = pair hour seller buyer - hour.deployed seller buyer
