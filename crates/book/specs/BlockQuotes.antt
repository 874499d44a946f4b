-- What a close asks a source of a block: its day-ahead price, where any MW is held in it. Assumes nothing.
use Rattle.std.specs.Prelude.{if◌then◌else◌, None}
use Rattle.tariff.specs.Tables.{Tables}
use Rattle.tariff.specs.declared.blocks.Block.{Block}
use Rattle.tally.specs.DayPrices.{is_held_in}
use Rattle.tally.specs.States.{State}
use Rattle.book.specs.declared.book.pricing.asking.BlockQuote.{BlockQuote}

abbrev pub block_quote : State → Tables → Block → BlockQuote
block_quote state tables block = record {
  is_needed = is_held_in state block;
  cents = if is_held_in state block then tables.day_ahead state.day.number block else None;
}
