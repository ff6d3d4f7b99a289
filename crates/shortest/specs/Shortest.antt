-- What is written is the shortest: no fewer bytes say the same document with known sizes, and floats in 8 bytes. Both
-- are asked for: the writer's floats take 8 bytes, where some could be said in 4, and 0.0 in none; and an unknown size
-- takes one byte, where a size over 126 takes more (proofs/Examples.antt has bytes of each).
use Rattle.std.specs.Prelude.{ℕ, ◌≤◌, ◌≡◌, Bool, true, false, List, [], eqb, length, drop, Err, Ok, Result}
use Rattle.basics.specs.Lists.{every}
use Rattle.tools.specs.Bytes.{Octets}
use Rattle.table.specs.Table.{Entry, table_of}
use Rattle.tag_parse.specs.Header.{read_header}
use Rattle.tag_parse.specs.declared.types.EBMLSize.{EBMLSize}
use Rattle.tag_parse.specs.declared.types.EBMLSize.TheVariants.{Known, Unknown}
use Rattle.tag_parse.specs.declared.types.TagValue.{TagValue}
use Rattle.tag_parse.specs.declared.types.TagValue.TheVariants as value
use Rattle.decoder_rules.specs.declared.types.Event.{Event}
use Rattle.decoder_rules.specs.declared.types.Event.TheVariants as handed
use Rattle.tag_writer.specs.Items.{Mark, run_of}
use Rattle.tag_writer.specs.ReadBack.{IsReadAs}
use Rattle.shortest.specs.Says.{Says}
use Rattle.tag_parse.specs.declared.types.ParseError.{ParseError}
use Rattle.tools.specs.declared.status.Status.{Status}
use Rattle.tag_parse.specs.declared.types.TagHeader.{TagHeader}
use Rattle.tools.specs.declared.status.Status.TheVariants as status

-- ---- the sizes that were read

-- whether a size is known, and passes the test
abbrev pub is_known_size : (ℕ → Bool) → EBMLSize → Bool
is_known_size test Unknown = false
is_known_size test (Known n) = test n

-- whether a header of such a size was read
abbrev pub has_known_size : (ℕ → Bool) → Result (Status TagHeader) ParseError → Bool
has_known_size test (Ok (status.NeedMore missing)) = false
has_known_size test (Err e) = false
has_known_size test (Ok (status.Complete h)) = is_known_size test h.size

-- whether a value that stands at the offset o of the bytes w has 8 bytes, where it is a float
abbrev pub is_wide_at : List Entry → List ℕ → ℕ → TagValue → Bool
is_wide_at t w o (value.UnsignedInt n) = true
is_wide_at t w o (value.Integer z) = true
is_wide_at t w o (value.Utf8 r) = true
is_wide_at t w o (value.Binary r) = true
is_wide_at t w o (value.Float b) = has_known_size (λ n. eqb n 8) (read_header t (drop o w))
is_wide_at t w o (value.Raw r) = true

-- whether an event of the bytes w is a Start of known size, an End, or a Data, of 8 bytes where it is a float
abbrev pub is_plain : List Entry → List ℕ → Event → Bool
is_plain t w (handed.Start x o) = has_known_size (λ n. true) (read_header t (drop o w))
is_plain t w (handed.End e) = true
is_plain t w (handed.Data x o v) = is_wide_at t w o v

-- ---- the statement

-- no bytes fewer than w say these marks, strictly or as ported, with known sizes and floats in 8 bytes
pub record IsShortest (strict : Bool) (es ps : List ℕ) (w : List ℕ) (ms : List Mark) : Type 0 where
  -- of all that say the document of the marks, as RFC 8794 has it
  pub of_all_that_say : (other : List ℕ) → Octets other → Says strict (table_of es ps) other (run_of ms) [] → length w ≤ length other
  -- of all that the decoder reads as the marks
  pub of_all_that_are_read : (other : List ℕ) → Octets other → (r : IsReadAs strict es ps other ms)
      → every (is_plain (table_of es ps) other) r.events ≡ true → length w ≤ length other
