use Rattle.std.proofs.Common.{◌≡◌, ℕ, ◌*◌, ◌<◌, [], length, take, get_or}
use Rattle.pages.specs.Pages.{joined}
use Rattle.pages.proofs.page.Page.fill.Given as goal

abbrev pub invariant-loop-seller : goal.invariant-loop-seller
invariant-loop-seller g l = record {
  lender : l.self.entries.ghost_name ≡ l.fn.self.entries.ghost_name;
  count : length l.self.entries.now ≡ 144;
  rows : (place : ℕ) → place < l.seller → length (get_or l.table place []) ≡ 12;
  filled : take (l.seller * 12) l.self.entries.now ≡ joined (take l.seller l.table);
}
