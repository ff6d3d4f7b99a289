-- Document 02, CR 8: the payload of a number that the decoder reads has at most 8 bytes, "since step 5 has refused such a
-- size before". So no call answers 22, which document 01 has for longer ones, and no refusal has that number. Assumes
-- nothing.
use Prim.Native.Nat.{ℕ, ◌≤◌}
use mathlib.Core.Path.{◌≡◌}
use mathlib.Core.Bool.{true}
use mathlib.Core.List.{List}
use native.Mathlib.Omega.{arith}
use Rattle.tag_parse.specs.Header.{numeric}
use Rattle.tag_parse.specs.declared.types.TagHeader.{TagHeader}
use Rattle.tag_parse.proofs.NumberSizes.{number_size}
use Rattle.table.specs.Table.{table_of}
use Rattle.decoder_rules.specs.Numbers.{error_number}
use Rattle.decoder_rules.specs.declared.types.DecodeError.{DecodeError}
use Rattle.decoder_rules.specs.declared.types.DecodeError.TheVariants as error
use Rattle.decoder_rules.specs.declared.types.TagDecoder.{TagDecoder}
use Rattle.decoder_rules.proofs.Exits.{AtHeader, HasPayload}

-- where a header was read and an element of a numeric type has n bytes of payload after it, n is at most 8; e is the
-- record with the note
pub number_payload_fits : (es ps : List ℕ) (d e : TagDecoder) (s : List ℕ) (h : TagHeader) (n : ℕ) → AtHeader es ps d s h → HasPayload (table_of es ps) e h n
    → numeric h.kind ≡ true → n ≤ 8
number_payload_fits es ps d e s h n at has k = number_size (table_of es ps) s h n at.read k has.known

-- no refusal of the decoder has the number 22
pub never_22 : (e : DecodeError) → error_number e ≡ 22 → ⊥
never_22 error.TableShape q = omega arith
never_22 error.BadState q = omega arith
never_22 error.TooFar q = omega arith
never_22 error.AfterFinish q = omega arith
never_22 error.InvalidTagData q = omega arith
never_22 error.InvalidTagId q = omega arith
never_22 error.HierarchyError q = omega arith
never_22 error.InvalidTagSize q = omega arith
never_22 error.OversizedChildElement q = omega arith
never_22 error.TooManyOpen q = omega arith
never_22 error.FromUtf8Error q = omega arith
never_22 error.ReadF64Mismatch q = omega arith
never_22 (error.UnexpectedEOF c) q = omega arith
never_22 error.NotAMaster q = omega arith
never_22 error.InvalidIdForm q = omega arith
never_22 error.UnknownSizePastEnd q = omega arith
