-- Document 02, CR 2: "Refusals: 40 the table fails its check, 41 over 512 items, 42 unmatched Start or End, 43 wrong
-- place, kind or value", "44 output too short; in this order". The order is in `write` (Write.antt).
use Rattle.std.specs.Prelude.{ℕ}
use Rattle.tools.specs.declared.errors.Refusal.{Refusal}
use Rattle.tag_writer.specs.declared.types.WriteError.{WriteError}
use Rattle.tag_writer.specs.declared.types.WriteError.TheVariants.{TableFails, TooManyItems, Unmatched, WrongItem, OutputTooShort}

-- the number of each
abbrev pub error_number : WriteError → ℕ
error_number TableFails = 40
error_number TooManyItems = 41
error_number Unmatched = 42
error_number WrongItem = 43
error_number OutputTooShort = 44

-- a refusal as it is told: its place is 0, as that of a number routine
abbrev pub number_and_place : WriteError → Refusal
number_and_place e = record { number = error_number e; place = 0 }
