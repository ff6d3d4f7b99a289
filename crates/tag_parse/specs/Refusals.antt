-- Document 01, "Refusal numbers": the numbers of the refusals that reading an element has.
use Rattle.std.specs.Prelude.{ℕ}
use Rattle.tag_parse.specs.declared.types.ParseError.{ParseError}
use Rattle.tag_parse.specs.declared.types.ParseError.TheVariants.{InvalidTagData, FromUtf8Error, ReadF64Mismatch}

-- 14, 20 and 21
abbrev pub parse_number : ParseError → ℕ
parse_number InvalidTagData = 14
parse_number FromUtf8Error = 20
parse_number ReadF64Mismatch = 21
