-- What one hour of a day has: the figures that were entered, whether it is allotted, and what came of that. Assumes nothing.
use Rattle.std.specs.Prelude.{ℕ, Bool, true, false, ℤ, pos}
use Rattle.tariff.specs.declared.charges.Cover.{Cover}
use Rattle.tariff.specs.declared.charges.Cover.TheVariants.{Covered}
use Rattle.tally.specs.Numbered.{replaced}

-- figures by party, and by seller and buyer; parties are numbered from 1
pub record Hour : Type 0 where
  -- MW of surplus, and of shortfall where below 0
  pub results : ℕ → ℤ
  pub offers : ℕ → ℕ
  pub requests : ℕ → ℕ
  pub allotted : Bool
  -- MW held by each seller
  pub holdings : ℕ → ℕ
  -- MWh that a seller was to deliver to a buyer, and those of them that it missed
  pub deployed : ℕ → ℕ → ℕ
  pub missed : ℕ → ℕ → ℕ
  -- whether others covered what was missed
  pub cover : ℕ → ℕ → Cover

-- every hour of a day that was just opened
abbrev pub blank : Hour
blank = record {
  results = λ party. pos 0;
  offers = λ party. 0;
  requests = λ party. 0;
  allotted = false;
  holdings = λ party. 0;
  deployed = λ seller buyer. 0;
  missed = λ seller buyer. 0;
  cover = λ seller buyer. Covered;
}

-- a result takes the place of the earlier one and sets the party's request to 0
abbrev pub with_result : ℕ → ℤ → Hour → Hour
with_result party mw hour = record hour { results = replaced hour.results party mw; requests = replaced hour.requests party 0 }

abbrev pub with_offer : ℕ → ℕ → Hour → Hour
with_offer party mw hour = record hour { offers = replaced hour.offers party mw }

abbrev pub with_request : ℕ → ℕ → Hour → Hour
with_request party mw hour = record hour { requests = replaced hour.requests party mw }

abbrev pub with_holdings : (ℕ → ℕ) → Hour → Hour
with_holdings holdings hour = record hour { allotted = true; holdings = holdings }

-- a deployment, by seller, takes the place of the buyer's earlier one and sets its misses to 0
abbrev pub with_deployment : ℕ → (ℕ → ℕ) → Hour → Hour
with_deployment buyer shares hour = record hour {
  deployed = λ seller. replaced (hour.deployed seller) buyer (shares seller);
  missed = λ seller. replaced (hour.missed seller) buyer 0;
}

-- a miss takes the place of the pair's earlier one
abbrev pub with_miss : (seller buyer : ℕ) → ℕ → Cover → Hour → Hour
with_miss seller buyer mwh cover hour = record hour {
  missed = replaced hour.missed seller (replaced (hour.missed seller) buyer mwh);
  cover = replaced hour.cover seller (replaced (hour.cover seller) buyer cover);
}
