-- Pairs of every allotted hour meet requests and holdings; deployments and misses stay in order. Assumes nothing.
use Rattle.std.proofs.Common.{◌≡◌, ℕ, true, eqb, ℤ, nat_abs, refl, ◌∙◌, arith}
use Rattle.std.proofs.lemmas.Bool.Decides.{nat_tests}
use Rattle.tariff.specs.Division.{Division}
use Rattle.tally.specs.Events.{deploy}
use Rattle.tally.specs.Hours.{Hour}
use Rattle.tally.specs.Numbered.{numbered}
use Rattle.tally.specs.PairLaws.{Met, PairsMeet, MissesWithinDeployments, DeploymentsDivided}
use Rattle.tally.specs.Pairs.{pair, pairs_of}
use Rattle.tally.specs.States.{State, hour_at, hour_named}
use Rattle.tally.specs.Tally.{done, tallied}
use Rattle.tally.proofs.Findings.{deploy_found}
use Rattle.tally.proofs.Numbering.{total_same}
use Rattle.tally.proofs.Overlaps.{buyers_filled, sellers_filled}
use Rattle.tally.proofs.Shares.{accepted, shares_total}
use Rattle.tally.proofs.Sound.{sound}
use Rattle.tally.proofs.SoundHours.{SoundHour}

pub met : (state : State) (hour : Hour) → SoundHour state.set_up.parties hour → hour.allotted ≡ true → Met state hour
met state hour sound is = record {
  buyers = λ buyer (is_buyer, known). buyers_filled hour state.set_up.parties (sound.sums is) buyer is_buyer known;
  sellers = λ seller (is_seller, known). sellers_filled hour state.set_up.parties (sound.sums is) seller is_seller known;
  within = λ seller _. sound.within seller;
}

pub pairs_meet_lem : PairsMeet
pairs_meet_lem set_up events proper lawful hour = met _ _ ((sound set_up events proper lawful).hours hour)

pub misses_within_deployments_lem : MissesWithinDeployments
misses_within_deployments_lem set_up events proper lawful hour = ((sound set_up events proper lawful).hours hour).ordered

same_is : (k : ℕ) → eqb k k ≡ true
same_is k = grind (arith, nat_tests)

-- the parts of a deployment are the rule's shares
parts : (state : State) (hour buyer mw : ℤ) (most : ℕ) (rule : Division) (seller : ℕ)
    → (hour_at (done state (deploy hour buyer mw most rule)) (nat_abs hour)).deployed seller (nat_abs buyer)
    ≡ numbered (rule (nat_abs mw) (pairs_of state.set_up.parties (hour_named state hour) (nat_abs buyer))) seller
parts state hour buyer mw most rule seller = rw (same_is (nat_abs hour)) (rw (same_is (nat_abs buyer)) refl)

pub deployments_divided_lem : DeploymentsDivided
deployments_divided_lem set_up events proper lawful hour buyer mw most rule ruled ok =
    let state = (tallied set_up events).state in
    let pairs = λ (seller : ℕ). pair (hour_named state hour) seller (nat_abs buyer) in
    let found = deploy_found state hour buyer mw most rule ok in
    rw ok (total_same _ _ state.set_up.parties (λ seller _ _. parts state hour buyer mw most rule seller)
    ∙ shares_total pairs state.set_up.parties (nat_abs mw) _
    (accepted most (nat_abs mw) rule pairs state.set_up.parties ruled found.divided))
