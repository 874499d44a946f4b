-- What a page keeps. Assumes nothing.
use Rattle.std.specs.Prelude.{◌≡◌, ℕ, if◌then◌else◌, ◌&&◌, List, length, ◌==◌, slice_set}
use Rattle.tariff.specs.Answers.{granted}
use Rattle.pages.specs.Pages.{entry_answer, place, page_at}

-- A written entry is read back, and no other entry changes.
abbrev pub WritesOneEntry : Type 0 → Type 0
WritesOneEntry E =
    (none : E) (entries : List E) (seller buyer : ℕ) (entry : E) → entry_answer (length entries) seller buyer ≡ granted
    → (s b : ℕ) → page_at none (slice_set entries (place seller buyer) entry) s b
    ≡ (if s == seller && b == buyer then entry else page_at none entries s b)
