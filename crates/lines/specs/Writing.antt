-- What writing an entry answers, and the target that it leaves. Assumes nothing.
use Rattle.std.specs.Prelude.{◌≡◌, ℕ, ◌<◌, ◌≤◌, List, ◌++◌, length, drop, Ok, Err, Result}
use Rattle.tariff.specs.declared.refusal.Refusal.{Refusal}
use Rattle.tariff.specs.declared.refusal.Refusal.TheVariants.{Misspelt, ShortTarget}
use Rattle.lines.specs.Fits.{Fits, Writable}
use Rattle.lines.specs.Positions.{FirstFailing}
use Rattle.lines.specs.Shapes.{kinds_of, shape_of}
use Rattle.lines.specs.Texts.{line_of}
use Rattle.lines.specs.Values.{values_of}
use Rattle.lines.specs.declared.entry.LineEntry.{LineEntry}

abbrev pub Writes : LineEntry → (before after : List ℕ) → Result ℕ Refusal → Type 0
Writes entry before after (Ok count) =
    Writable entry × (count ≡ length (line_of entry)) × (count ≤ length before)
    × (after ≡ line_of entry ++ drop count before)
Writes entry before after (Err (Misspelt position)) =
    FirstFailing Fits (kinds_of (shape_of entry)) (values_of entry) position × (after ≡ before)
Writes entry before after (Err (ShortTarget needed)) =
    Writable entry × (needed ≡ length (line_of entry)) × (length before < needed) × (after ≡ before)
Writes _ _ _ (Err _) = ⊥
