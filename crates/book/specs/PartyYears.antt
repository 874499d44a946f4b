-- What a party's program year stands at. Assumes nothing.
use Rattle.std.specs.Prelude.{ℕ}
use Rattle.tally.specs.Charges.{ceiling_of}
use Rattle.tally.specs.States.{State}
use Rattle.book.specs.declared.party_year.PartyYear.{PartyYear}

-- by closed days alone: nothing of the open day counts
abbrev pub party_year_of : State → ℕ → PartyYear
party_year_of state party = record {
  failure_days = state.year.failure_days party;
  charges = state.year.charges party;
  ceiling = ceiling_of state.set_up (state.year.misses party);
}
