-- Document 01, "Refusal numbers": what reading an element refuses has its own number as a refusal of the decoder's too.
-- Assumes nothing.
use mathlib.Core.Path.{◌≡◌, refl}
use Rattle.tag_parse.specs.Refusals.{parse_number}
use Rattle.tag_parse.specs.declared.types.ParseError.{ParseError}
use Rattle.tag_parse.specs.declared.types.ParseError.TheVariants.{InvalidTagData, FromUtf8Error, ReadF64Mismatch}
use Rattle.decoder_rules.specs.Numbers.{error_number, parse_error}

-- 14, 20 and 21 are the same in both
pub same_number : (e : ParseError) → error_number (parse_error e) ≡ parse_number e
same_number InvalidTagData = refl
same_number FromUtf8Error = refl
same_number ReadF64Mismatch = refl
