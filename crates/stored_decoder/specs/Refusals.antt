-- Document 02, CR 14: "Refusals: 90 not 2,560 bytes, 91 layout unknown, 92 a yes-or-no word over 1 or an unused byte
-- set, then 11."
use Rattle.std.specs.Prelude.{ℕ}
use Rattle.tools.specs.declared.errors.Refusal.{Refusal}
use Rattle.stored_decoder.specs.declared.types.StoreError.{StoreError}
use Rattle.stored_decoder.specs.declared.types.StoreError.TheVariants.{BlockLength, UnknownLayout, UnusedSet, BadState}

-- the number of each
abbrev pub error_number : StoreError → ℕ
error_number BlockLength = 90
error_number UnknownLayout = 91
error_number UnusedSet = 92
error_number BadState = 11

-- a refusal as it is told: its place is 0, as that of a number routine
abbrev pub number_and_place : StoreError → Refusal
number_and_place e = record { number = error_number e; place = 0 }
