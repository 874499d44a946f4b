-- Divisions of a block one after another, and of both blocks. Assumes nothing.
use Rattle.std.proofs.Common.{◌≡◌, ℕ, zero, suc, ◌+◌, ◌-◌, ◌<◌, ◌≤◌, Bool, true, false, cond, ltb, eqb, List, [], length, get_or, set, refl}
use Rattle.std.proofs.Common.{sym, subst, ap, ap₂, ◌∙◌, ⊎_elim, add-one, below_more, arith}
use Rattle.std.proofs.lemmas.Bool.{cases_lt}
use Rattle.std.proofs.lemmas.Bool.Decides.{nat_tests}
use Rattle.tariff.specs.Answers.{Answer, granted, ◌then◌, in_order, refused}
use Rattle.tariff.specs.Division.{Division, LawfulRule, Moves, division_answer}
use Rattle.tariff.specs.declared.blocks.Block.{Block}
use Rattle.tariff.specs.declared.refusal.Refusal.{Refusal}
use Rattle.tariff.specs.declared.blocks.Block.TheVariants.{Heavy, Light}
use Rattle.tally.specs.DayPrices.{DayPrices}
use Rattle.tally.specs.MakeWhole.{turn, make_whole_claims, make_whole_share, sharing_answer, sharings_answer}
use Rattle.tally.specs.Settlement.{make_whole}
use Rattle.tally.specs.States.{State, IsParty}
use Rattle.tally.specs.Turns.{Turned}
use Rattle.tally.proofs.Granting.{in_order_lem}
use Rattle.book.proofs.RowWrites.{place_next}
use Rattle.book.specs.Sharing.{Divisions, Shared, share_of, shares_in}

turned_as : (moves : Moves) (claims : List ℕ) {amount now : ℕ} {before after x y : Division} → amount ≡ now → before ≡ x → after ≡ y
    → Turned moves amount claims before after → Turned moves now claims x y
turned_as moves claims {amount} {now} {before} {after} {x} {y} e f g t =
    subst (λ n. Turned moves n claims x y) e (subst (λ b. Turned moves amount claims b y) f (subst (Turned moves amount claims before) g t))

-- meanings up to the first `count`, and one more
abbrev extended : (ℕ → Division) → ℕ → Division → ℕ → Division
extended meanings count next k = cond (ltb count k) next (meanings k)

extended_old : (meanings : ℕ → Division) (count : ℕ) (next : Division) (k : ℕ) → k ≤ count → extended meanings count next k ≡ meanings k
extended_old meanings count next k l = let e : ltb count k ≡ false = grind (arith, nat_tests) in ap (λ b. cond b next (meanings k)) e

extended_new : (meanings : ℕ → Division) (count : ℕ) (next : Division) → extended meanings count next (suc count) ≡ next
extended_new meanings count next =
    let e : ltb count (suc count) ≡ true = grind (arith, nat_tests) in ap (λ b. cond b next (meanings (suc count))) e

module _ (most : ℕ) (moves : Moves) (amounts : ℕ → ℕ) (claims : ℕ → List ℕ) (parties : ℕ) (first : Division) where
  -- before the first
  pub divisions_none : LawfulRule most first → (rows : List (List ℕ)) → Divisions most moves amounts claims parties 0 first rows first
  divisions_none lawful rows = record {
    meanings = λ k. first;
    lawful = λ k. lawful;
    starts = refl;
    turns = λ k l. absurd (omega arith);
    ends = refl;
    shares = λ seller buyer l. absurd (omega arith);
  }

  -- one more
  pub divisions_more : (count : ℕ) (rows : List (List ℕ)) (last next : Division) (row : List ℕ)
      → Divisions most moves amounts claims parties count first rows last
      → count < length rows → LawfulRule most next
      → Turned moves (amounts count) (claims count) last next
      → ((buyer : ℕ) → buyer < parties → get_or row buyer 0 ≡ share_of (amounts count) last (claims count) buyer)
      → Divisions most moves amounts claims parties (count + 1) first (set rows count row) next
  divisions_more count rows last next row before room lawful turned given = record {
    meanings = meanings;
    lawful = λ k. by_law k (ltb count k);
    starts = old 0 (omega arith) ∙ before.starts;
    turns = below_more (λ k. Turned moves (amounts k) (claims k) (meanings k) (meanings (suc k))) count
        (λ k l. turned_as moves (claims k) refl (sym (old k (omega arith))) (sym (old (suc k) (omega arith))) (before.turns k l))
        (turned_as moves (claims count) refl (sym last_is) (sym (extended_new before.meanings count next)) turned);
    ends = ap meanings (add-one count) ∙ extended_new before.meanings count next;
    shares = λ seller buyer l m.
        place_next [] rows count row
        (λ k (r : List ℕ). (b : ℕ) → b < parties → get_or r b 0 ≡ share_of (amounts k) (meanings k) (claims k) b) room
        (λ b n. given b n ∙ ap (λ d. share_of (amounts count) d (claims count) b) (sym last_is))
        (λ k p b n. before.shares k b p n ∙ ap (λ d. share_of (amounts k) d (claims k) b) (sym (old k (omega arith))))
        seller l buyer m;
  }
    where
      meanings : ℕ → Division
      meanings = extended before.meanings count next

      old : (k : ℕ) → k ≤ count → meanings k ≡ before.meanings k
      old = extended_old before.meanings count next

      last_is : meanings count ≡ last
      last_is = old count (omega arith) ∙ before.ends

      by_law : (k : ℕ) (b : Bool) → LawfulRule most (cond b next (before.meanings k))
      by_law k true = lawful
      by_law k false = before.lawful k

-- one block's meanings, and then the other's
abbrev one_then_other : (heavy light : ℕ → Division) → ℕ → ℕ → Division
one_then_other heavy light parties t = cond (ltb t parties) (heavy t) (light (t - parties))

-- the divisions of the heavy block, and then those of the light one
module _ (most : ℕ) (moves : Moves) (state : State) (prices : DayPrices) (first middle last : Division) (heavy light : List (List ℕ))
    (heavy_amounts light_amounts : ℕ → ℕ) where
  abbrev parties : ℕ
  parties = state.set_up.parties

  pub shared : ((seller : ℕ) → seller < parties → heavy_amounts seller ≡ make_whole state prices Heavy (suc seller))
      → ((seller : ℕ) → seller < parties → light_amounts seller ≡ make_whole state prices Light (suc seller))
      → Divisions most moves heavy_amounts (λ seller. make_whole_claims state Heavy (suc seller)) parties parties first heavy middle
      → Divisions most moves light_amounts (λ seller. make_whole_claims state Light (suc seller)) parties parties middle light last
      → Shared most moves state prices first heavy light last
  unfolding make_whole_share
  shared heavy_are light_are h l = record {
    meanings = meanings;
    lawful = λ t. by_law t (ltb t parties);
    turns = record { starts = in_heavy 0 (omega arith) ∙ h.starts; turns = turns; ends = in_light parties ∙ l.ends };
    shares = shares;
  }
    where
      meanings : ℕ → Division
      meanings = one_then_other h.meanings l.meanings parties

      by_law : (t : ℕ) (b : Bool) → LawfulRule most (cond b (h.meanings t) (l.meanings (t - parties)))
      by_law t true = h.lawful t
      by_law t false = l.lawful (t - parties)

      in_light : (k : ℕ) → meanings (parties + k) ≡ l.meanings k
      in_light k =
          let e : ltb (parties + k) parties ≡ false = grind (arith, nat_tests) in
          let f : parties + k - parties ≡ k = omega arith in
          ap (λ b. cond b (h.meanings (parties + k)) (l.meanings (parties + k - parties))) e ∙ ap l.meanings f

      in_heavy : (t : ℕ) → t ≤ parties → meanings t ≡ h.meanings t
      in_heavy t m =
          ⊎_elim
          (λ (n : t < parties).
          let e : ltb t parties ≡ true = grind (arith, nat_tests) in
          ap (λ b. cond b (h.meanings t) (l.meanings (t - parties))) e)
          (λ (n : parties ≤ t).
          let e : t ≡ parties = omega arith in
          let f : parties + 0 ≡ parties = omega arith in
          ap meanings (e ∙ sym f) ∙ in_light 0 ∙ l.starts ∙ sym h.ends ∙ ap h.meanings (sym e))
          (cases_lt t parties)

      -- turn by turn
      heavy_turn : (seller : ℕ) → seller < parties → (meanings (suc seller - 1) ≡ h.meanings seller)
          × (meanings (suc seller - 1 + 1) ≡ h.meanings (suc seller))
      heavy_turn seller m =
          let e : suc seller - 1 ≡ seller = omega arith in
          let f : suc seller - 1 + 1 ≡ suc seller = omega arith in
          (ap meanings e ∙ in_heavy seller (omega arith), ap meanings f ∙ in_heavy (suc seller) (omega arith))

      light_turn : (seller : ℕ)
          → (meanings (parties + (suc seller - 1)) ≡ l.meanings seller)
          × (meanings (parties + (suc seller - 1) + 1) ≡ l.meanings (suc seller))
      light_turn seller =
          let e : parties + (suc seller - 1) ≡ parties + seller = omega arith in
          let f : parties + (suc seller - 1) + 1 ≡ parties + suc seller = omega arith in
          (ap meanings e ∙ in_light seller, ap meanings f ∙ in_light (suc seller))

      turns : (block : Block) (seller : ℕ) → IsParty state seller
          → Turned moves (make_whole state prices block seller) (make_whole_claims state block seller)
          (meanings (turn state block seller)) (meanings (turn state block seller + 1))
      turns block zero party = absurd (omega (arith, party.0))
      turns Heavy (suc seller) party =
          let m : seller < parties = omega (arith, party.1) in
          turned_as moves _ (heavy_are seller m) (sym (heavy_turn seller m).0) (sym (heavy_turn seller m).1) (h.turns seller m)
      turns Light (suc seller) party =
          let m : seller < parties = omega (arith, party.1) in
          turned_as moves _ (light_are seller m) (sym (light_turn seller).0) (sym (light_turn seller).1) (l.turns seller m)

      shares : (block : Block) (seller buyer : ℕ) → IsParty state seller → IsParty state buyer
          → shares_in heavy light block seller buyer ≡ make_whole_share state prices meanings block seller buyer
      shares block zero buyer party other = absurd (omega (arith, party.0))
      shares block (suc seller) zero party other = absurd (omega (arith, other.0))
      shares Heavy (suc seller) (suc buyer) party other =
          let m : seller < parties = omega (arith, party.1) in
          h.shares seller buyer m (omega (arith, other.1))
          ∙ ap₂ (λ a d. share_of a d (make_whole_claims state Heavy (suc seller)) buyer) (heavy_are seller m) (sym (heavy_turn seller m).0)
      shares Light (suc seller) (suc buyer) party other =
          let m : seller < parties = omega (arith, party.1) in
          l.shares seller buyer m (omega (arith, other.1))
          ∙ ap₂ (λ a d. share_of a d (make_whole_claims state Light (suc seller)) buyer) (light_are seller m) (sym (light_turn seller).0)

-- the tests of both blocks, of which those of the heavy one are passed
pub both_tested : (state : State) (prices : DayPrices) (most limit : ℕ) (a : Answer) → most ≡ limit
    → granted ≡ in_order (sharing_answer state prices most Heavy) state.set_up.parties
    → a ≡ in_order (sharing_answer state prices most Light) state.set_up.parties
    → a ≡ sharings_answer state prices limit
both_tested state prices most limit a e heavy light =
    light ∙ ap (λ b. b then in_order (sharing_answer state prices most Light) state.set_up.parties) heavy
    ∙ ap (sharings_answer state prices) e

-- those of which one of the heavy block's refuses
pub first_tested : (state : State) (prices : DayPrices) (most limit : ℕ) (refusal : Refusal) → most ≡ limit
    → refused refusal ≡ in_order (sharing_answer state prices most Heavy) state.set_up.parties
    → refused refusal ≡ sharings_answer state prices limit
first_tested state prices most limit refusal e heavy =
    ap (λ b. b then in_order (sharing_answer state prices most Light) state.set_up.parties) heavy ∙ ap (sharings_answer state prices) e

-- where each division of a block would be granted, so is that of what the seller lacks
pub sharing_granted : (state : State) (prices : DayPrices) (most limit : ℕ) → most ≡ limit → (block : Block) (amounts : ℕ → ℕ)
    → granted ≡ in_order (sharing_answer state prices most block) state.set_up.parties
    → ((seller : ℕ) → seller < state.set_up.parties → amounts seller ≡ make_whole state prices block (suc seller))
    → (seller : ℕ) → seller < state.set_up.parties → 0 < amounts seller
    → division_answer limit (amounts seller) (make_whole_claims state block (suc seller)) state.set_up.parties ≡ granted
sharing_granted state prices most limit same block amounts passed are seller l above =
    let e = are seller l in
    let n : eqb (make_whole state prices block (suc seller)) 0 ≡ false = grind (arith, nat_tests) in
    let claims = make_whole_claims state block (suc seller) in
    ap₂ (λ m a. division_answer m a claims state.set_up.parties) (sym same) e
    ∙ sym (ap (λ b. cond b granted (division_answer most (make_whole state prices block (suc seller)) claims state.set_up.parties)) n)
    ∙ in_order_lem (sharing_answer state prices most block) (suc seller) state.set_up.parties (sym passed) (omega arith) (omega arith)
