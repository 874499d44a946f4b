-- Sums over tables of charges. Assumes nothing.
use Rattle.std.proofs.Common.{◌≡◌, ℕ, cond, List, [], pos, refl, sym, ap}
use Rattle.tariff.specs.declared.blocks.Block.{Block}
use Rattle.tariff.specs.declared.charges.Cover.{Cover}
use Rattle.tariff.specs.declared.charges.Cover.TheVariants.{Covered, Uncovered}
use Rattle.tally.specs.Charges.{cut_charge}
use Rattle.tally.specs.DayPrices.{DayPrices, in_block}
use Rattle.tally.specs.Numbered.{total}
use Rattle.tally.specs.Settlement.{block_total}
use Rattle.tally.specs.States.{State, IsParty, hour_at}
use Rattle.tally.specs.Years.{day_charges}
use Rattle.tally.proofs.BlockHours.{block_zero}
use Rattle.tally.proofs.Numbering.{total_same, total_zero, total_z_same}
use Rattle.book.specs.CutTables.{HasCuts, payee_part}
use Rattle.book.specs.Records.{at, in_row}

-- of a table without an entry nothing goes to anyone
pub part_none : (payee cover : Cover) (charged : ℕ) → charged ≡ 0 → payee_part payee cover charged ≡ 0
part_none Covered Covered charged e = e
part_none Covered Uncovered charged e = refl
part_none Uncovered Covered charged e = refl
part_none Uncovered Uncovered charged e = e

module _ (state : State) (rows : List (List ℕ)) (empty : (hour buyer : ℕ) → in_row 0 rows hour buyer ≡ 0) where
  pub payee_none : (block : Block) (payee : Cover) (seller buyer : ℕ)
      → pos 0 ≡ block_total state block (λ hour. pos (payee_part payee ((hour_at state hour).cover seller buyer)
      (in_row 0 rows hour buyer)))
  payee_none block payee seller buyer =
      sym (block_zero state block (λ hour. pos (payee_part payee ((hour_at state hour).cover seller buyer)
      (in_row 0 rows hour buyer)))
      (λ hour i. ap pos (part_none payee ((hour_at state hour).cover seller buyer) _ (empty hour buyer))))

  pub day_none : 0 ≡ total (λ hour. total (at 0 (at [] rows hour)) state.set_up.parties) 24
  day_none =
      sym (total_zero (λ hour. total (at 0 (at [] rows hour)) state.set_up.parties) 24
      (λ hour first last. total_zero (at 0 (at [] rows hour)) state.set_up.parties (λ buyer l m. empty hour buyer)))

module _ (state : State) (prices : DayPrices) (seller : ℕ) (cuts : List (List ℕ))
    (has : HasCuts state prices seller cuts) where
  pub payee_same : (block : Block) (payee : Cover) (buyer : ℕ) → IsParty state buyer
      → block_total state block (λ hour. pos (payee_part payee ((hour_at state hour).cover seller buyer)
      (in_row 0 cuts hour buyer)))
      ≡ block_total state block (λ hour. pos (payee_part payee ((hour_at state hour).cover seller buyer)
      (cut_charge state prices seller hour buyer)))
  payee_same block payee buyer is =
      total_z_same
      (λ hour. cond (in_block state block hour) (pos (payee_part payee ((hour_at state hour).cover seller buyer)
      (in_row 0 cuts hour buyer))) (pos 0))
      (λ hour. cond (in_block state block hour) (pos (payee_part payee ((hour_at state hour).cover seller buyer)
      (cut_charge state prices seller hour buyer))) (pos 0))
      24
      (λ hour first last.
      ap (λ x. cond (in_block state block hour) (pos (payee_part payee ((hour_at state hour).cover seller buyer) x))
      (pos 0)) (has hour buyer first last is))

  pub day_same : total (λ hour. total (at 0 (at [] cuts hour)) state.set_up.parties) 24 ≡ day_charges state prices seller
  unfolding day_charges
  day_same =
      total_same (λ hour. total (at 0 (at [] cuts hour)) state.set_up.parties)
      (λ hour. total (cut_charge state prices seller hour) state.set_up.parties) 24
      (λ hour first last. total_same (at 0 (at [] cuts hour))
      (cut_charge state prices seller hour) state.set_up.parties (λ buyer l m. has hour buyer first last (l, m)))
