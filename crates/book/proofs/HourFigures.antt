-- The figures of a book's hours: their sizes, and how they are ordered. Assumes nothing.
use Rattle.std.proofs.Common.{ℕ, ◌≤◌}
use Rattle.tally.specs.Hours.{Hour}
use Rattle.tally.specs.Numbered.{total}
use Rattle.tally.specs.Pairs.{pair}
use Rattle.tally.specs.States.{hour_at}
use Rattle.tally.proofs.Sizes.{misses_size}
use Rattle.tally.proofs.SoundHours.{SoundHour}
use Rattle.book.specs.Books.{state_of}
use Rattle.book.specs.declared.book.Book.{Book}
use Rattle.book.proofs.Facts.{sound_of}

module _ (book : Book) (hour : ℕ) where
  -- the hour as the tally has it
  abbrev pub kept : Hour
  kept = hour_at (state_of book) hour

  abbrev sound : SoundHour book.pool.parties kept
  sound = (sound_of book).hours hour

  -- what a seller missed with any number of buyers together
  pub small_misses : (seller n : ℕ) → total (kept.missed seller) n ≤ 10000
  small_misses seller n = misses_size book.pool.parties kept sound seller n

  -- no more is deployed than held, and no more missed than deployed
  pub deployment_within : (seller buyer : ℕ) → kept.deployed seller buyer ≤ pair kept seller buyer
  deployment_within seller buyer = sound.ordered.deployments seller buyer

  pub miss_within : (seller buyer : ℕ) → kept.missed seller buyer ≤ kept.deployed seller buyer
  miss_within seller buyer = sound.ordered.misses seller buyer
