-- What helpers' contracts use: what the headers that are read keep, so that no sum wraps.
use Rattle.std.specs.Prelude.{ℕ, ◌≤◌, ◌<◌, true, ◌≡◌}
use Rattle.table.specs.declared.types.TagDataType.{TagDataType}
use Rattle.tag_parse.specs.Payload.{is_integer}
use Rattle.tag_parse.specs.declared.types.EBMLSize.{EBMLSize}
use Rattle.tag_parse.specs.declared.types.EBMLSize.TheVariants.{Known, Unknown}
use Rattle.decoder_rules.specs.Record.{size_limit}

-- a header has at most 16 bytes, 8 for the ID and 8 for the size
abbrev pub longest_header : ℕ
longest_header = 16

-- a known size has at most 56 bits
abbrev pub SmallSize : EBMLSize → Type 0
SmallSize Unknown = Unit {0}
SmallSize (Known n) = n < size_limit

-- a known size of an integer is at most 8
abbrev pub FitsKind : TagDataType → EBMLSize → Type 0
FitsKind kind Unknown = Unit {0}
FitsKind kind (Known n) = is_integer kind ≡ true → n ≤ 8
