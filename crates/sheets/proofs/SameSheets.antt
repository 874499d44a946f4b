-- Sheets are the same where their days and each place of their tables are. Assumes nothing.
use Rattle.std.proofs.Common.{◌≡◌, ℕ}
use Rattle.sheets.specs.Sheets.{Sheet}
use Rattle.tariff.specs.Tables.{Tables}
use Rattle.tariff.specs.declared.blocks.Block.{Block}

same_tables : (a b : Tables)
    → ((day : ℕ) (block : Block) → a.day_ahead day block ≡ b.day_ahead day block)
    → ((day hour : ℕ) → a.real_time day hour ≡ b.real_time day hour)
    → ((day hour : ℕ) → a.factor day hour ≡ b.factor day hour)
    → a ≡ b
same_tables a b p q r = λ i. record { day_ahead = λ d k. p d k i; real_time = λ d h. q d h i; factor = λ d h. r d h i }

pub same_sheet : (a b : Sheet)
    → a.day ≡ b.day
    → ((day : ℕ) (block : Block) → a.tables.day_ahead day block ≡ b.tables.day_ahead day block)
    → ((day hour : ℕ) → a.tables.real_time day hour ≡ b.tables.real_time day hour)
    → ((day hour : ℕ) → a.tables.factor day hour ≡ b.tables.factor day hour)
    → a ≡ b
same_sheet a b d p q r = λ i. record { day = d i; tables = same_tables a.tables b.tables p q r i }
