-- What helpers' contracts use: parts of the definitions of one call, over the fields that they read.
use Rattle.std.specs.Prelude.{ℕ, ◌+◌, Bool, cond, not, ◌&&◌, List, leb, ltb, Err, None, Ok, Option, Result, Some, ⊤}
use Rattle.table.specs.Check.{only_ids}
use Rattle.table.specs.declared.types.TagDataType.{TagDataType}
use Rattle.table.specs.Table.{parts_of, parts_in, is_typed}
use Rattle.tag_parse.specs.declared.types.EBMLSize.{EBMLSize}
use Rattle.tag_parse.specs.declared.types.EBMLSize.TheVariants.{Known, Unknown}
use Rattle.tag_parse.specs.declared.types.TagHeader.{TagHeader}
use Rattle.decoder_rules.specs.Record.{farthest}
use Rattle.decoder_rules.specs.declared.types.DecodeError.TheVariants.{BadState, TooFar, InvalidTagSize}
use Rattle.decoder_rules.specs.declared.types.DecodeError.{DecodeError}
use Rattle.table.specs.declared.types.Path.{Path}

-- 11 and 12, where the state was found good or not, at this position, with n bytes lent
abbrev pub check11to12 : Bool → ℕ → ℕ → Result ⊤ DecodeError
check11to12 good position n = cond good (cond (leb (position + n) farthest) (Ok tt) (Err TooFar)) (Err BadState)

-- step 7's test where the record is settled or not, with the path at the range in the header
abbrev pub does_settle : List ℕ → Bool → TagHeader → Bool
does_settle ps settled h = not settled && is_typed h.kind && only_ids (parts_in (parts_of ps) h.path)

-- step 7's note so
abbrev pub settling_note : List ℕ → Bool → TagHeader → Option Path
settling_note ps settled h = cond (does_settle ps settled h) (Some h.path) None

-- whether step 8 walks the path: "Path, for a typed ID once settled, unless allowed"
unfoldable pub is_walked : TagDataType → Bool → Bool → Bool
is_walked kind settled allowed = settled && not allowed && is_typed kind

-- 17 for a size n, where a greatest size is given
unfoldable pub size_checked : Bool → ℕ → ℕ → Result ⊤ DecodeError
size_checked given greatest n = cond (given && ltb greatest n) (Err InvalidTagSize) (Ok tt)

-- a size that is known; 0 for one that is not
abbrev pub known_size : EBMLSize → ℕ
known_size (Known n) = n
known_size Unknown = 0
