-- Document 01, "Refusal numbers": the number and the place of each refusal of a number routine.
use Rattle.std.specs.Prelude.{ℕ}
use Rattle.tools.specs.declared.errors.ToolError.{ToolError}
use Rattle.tools.specs.declared.errors.Refusal.{Refusal}
use Rattle.tools.specs.declared.errors.ToolError.TheVariants.{ReadVintOverflow, WriteVintOverflow, WriteSignedVintOverflow, WidthMismatch, OutputTooShort, ReadU64Overflow, ReadI64Overflow, ReadF64Mismatch}

-- 1 to 7, each in its order there
abbrev pub number_of : ToolError → ℕ
number_of ReadVintOverflow = 1
number_of WriteVintOverflow = 2
number_of WriteSignedVintOverflow = 3
number_of WidthMismatch = 4
number_of OutputTooShort = 5
number_of ReadU64Overflow = 6
number_of ReadI64Overflow = 6
number_of ReadF64Mismatch = 7

-- "A refusal returns its number and place", which is "0 for a number routine"
abbrev pub number_and_place : ToolError → Refusal
number_and_place e = record { number = number_of e; place = 0 }
