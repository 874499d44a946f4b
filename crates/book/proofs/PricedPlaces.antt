-- The prices of a day's hours, place by place. Assumes nothing.
use Rattle.std.proofs.Common.{◌≡◌, ℕ, suc, ◌+◌, ◌<◌, ◌≤◌, List, length, get_or, set, ℤ, pos, nat_abs, ap, ◌∙◌}
use Rattle.tariff.specs.Blocks.{block_of}
use Rattle.tariff.specs.Prices.{hour_prices, initial_terms}
use Rattle.tariff.specs.declared.blocks.Block.{Block}
use Rattle.tariff.specs.declared.blocks.Block.TheVariants.{Heavy, Light}
use Rattle.tariff.specs.declared.blocks.DayKind.{DayKind}
use Rattle.tariff.specs.declared.prices.HourPrices.{HourPrices}
use Rattle.book.specs.HourPricing.{by_block, priced_at}
use Rattle.book.proofs.RowWrites.{place_next}

-- a list that has the wanted elements up to a place, and one more written there
pub places_more : {A : Type 0} (wanted : ℕ → A) (list : List A) (place : ℕ) (new : A) → place < length list
    → ((k : ℕ) → k < place → (none : A) → get_or list k none ≡ wanted k) → new ≡ wanted place
    → (k : ℕ) → k < place + 1 → (none : A) → get_or (set list place new) k none ≡ wanted k
places_more {A} wanted list place new l below here k h none =
    place_next none list place new (λ i x. x ≡ wanted i) l here (λ i b. below i b none) k h

pub block_price_size : (most : ℕ) (heavy light : ℤ) (block : Block) → nat_abs heavy ≤ most → nat_abs light ≤ most
    → nat_abs (by_block heavy light block) ≤ most
block_price_size most heavy light Heavy h l = h
block_price_size most heavy light Light h l = l

-- the prices of an hour by its figures
pub priced_here : (kind : DayKind) (heavy light : ℤ) (real_time : List ℤ) (factors : List ℕ) (place : ℕ) (day_ahead : ℤ) (block : Block)
    (new : HourPrices)
    → block ≡ block_of kind (suc place) → day_ahead ≡ by_block heavy light block
    → new ≡ hour_prices initial_terms day_ahead (get_or real_time place (pos 0)) (get_or factors place 0)
    → new ≡ priced_at kind heavy light real_time factors (suc place)
unfolding priced_at
priced_here kind heavy light real_time factors place day_ahead block new b d e =
    e ∙ ap (λ price. hour_prices initial_terms price (get_or real_time place (pos 0)) (get_or factors place 0))
    (d ∙ ap (by_block heavy light) b)
