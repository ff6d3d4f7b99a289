-- Document 01, "One call of the decoder", step 5: the header of an element.
use Rattle.std.specs.Prelude.{ℕ, ◌+◌, ◌≤◌, Bool, true, false, cond, ◌&&◌, List, [], ◌∷◌, ◌++◌, ◌⊎◌, ◌≡◌, ltb, eqb, length, get_or, take, drop, Err, Ok, Result}
use Rattle.basics.specs.Lists.{ProperPrefix}
use Rattle.tools.specs.Bytes.{be_number}
use Rattle.tools.specs.Vint.{IsVint, Front, FirstByte0, vint_length, all_ones, less_present, missing_of_none, read_vint}
use Rattle.table.specs.Table.{Entry, spec_for, data_type_of, range_of}
use Rattle.table.specs.declared.types.Spec.{Spec}
use Rattle.table.specs.declared.types.TagDataType.{TagDataType}
use Rattle.table.specs.declared.types.TagDataType.TheVariants as type
use Rattle.tag_parse.specs.declared.types.ParseError.TheVariants.{InvalidTagData}
use Rattle.tag_parse.specs.declared.types.EBMLSize.{EBMLSize}
use Rattle.tag_parse.specs.declared.types.EBMLSize.TheVariants as size
use Rattle.tag_parse.specs.declared.types.TagHeader.{TagHeader}
use Rattle.tag_parse.specs.declared.types.ParseError.{ParseError}
use Rattle.tools.specs.declared.status.Status.{Status}
use Rattle.tools.specs.declared.errors.ToolError.{ToolError}
use Rattle.tools.specs.declared.status.Status.TheVariants as status

-- ---- the ID

-- "first byte 0 is the one-byte ID 0; otherwise vint length"
abbrev pub id_length : ℕ → ℕ
id_length first = cond (eqb first 0) 1 (vint_length first)

-- an ID of L bytes at the front of s, "marker kept"; where s is shorter it needs more, as many as a vint of L bytes
abbrev pub id_at : ℕ → List ℕ → Status (ℕ × ℕ)
id_at L s = cond (ltb (length s) L) (status.NeedMore (less_present L s)) (status.Complete (be_number (take L s), L))

-- the ID at the front of s
unfoldable pub read_tag_id : List ℕ → Status (ℕ × ℕ)
read_tag_id s = cond (eqb (length s) 0) (status.NeedMore missing_of_none) (id_at (id_length (get_or s 0 0)) s)

-- the answer asks for more bytes
abbrev pub id_needs_more : Status (ℕ × ℕ) → Bool
id_needs_more (status.NeedMore missing) = true
id_needs_more (status.Complete (x, n)) = false

-- how many bytes it asks for, at least: 0 where it asks for none
abbrev pub id_missing : Status (ℕ × ℕ) → ℕ
id_missing (status.NeedMore missing) = missing
id_missing (status.Complete (x, n)) = 0

-- ---- the size

-- "a size is Unknown when its L-byte vint has the value 2^(7L)−1"
unfoldable pub size_of : ℕ → ℕ → EBMLSize
size_of v L = cond (all_ones L v) size.Unknown (size.Known v)

-- types 1, 2 and 5
abbrev pub numeric : TagDataType → Bool
numeric type.UnsignedInt = true
numeric type.Integer = true
numeric type.Float = true
numeric type.Untyped = false
numeric type.Master = false
numeric type.Utf8 = false
numeric type.Binary = false

-- "type 1, 2 or 5 with a size value over 8 (Unknown counts as its value)"
unfoldable pub too_long : TagDataType → ℕ → Bool
too_long kind v = ltb 8 v && numeric kind

-- ---- the header

-- the header of an ID of n bytes, with what the table says of it, and of a size vint of L bytes
abbrev pub header_of : ℕ → Spec → ℕ → ℕ → ℕ → TagHeader
header_of x spec n v L = record { id = x; kind = spec.kind; path = spec.path; size = size_of v L; len = n + L }

-- an ID of n bytes and a size vint of the value v in L bytes
unfoldable pub sized_by : ℕ → Spec → ℕ → ℕ → ℕ → Result (Status TagHeader) ParseError
sized_by x spec n v L = cond (too_long spec.kind v) (Err InvalidTagData) (Ok (status.Complete (header_of x spec n v L)))

-- what the size vint makes of it: "Size byte 0" is refusal 14
unfoldable pub sized : ℕ → Spec → ℕ → Result (Status (ℕ × ℕ)) ToolError → Result (Status TagHeader) ParseError
sized x spec n (Ok (status.NeedMore missing)) = Ok (status.NeedMore missing)
sized x spec n (Err e) = Err InvalidTagData
sized x spec n (Ok (status.Complete (v, L))) = sized_by x spec n v L

-- the size vint stands right after the ID; document 02, CR 1: "The header adds 1 for the size while the ID is
-- incomplete"
unfoldable pub after_id : List Entry → List ℕ → Status (ℕ × ℕ) → Result (Status TagHeader) ParseError
after_id t s (status.NeedMore missing) = Ok (status.NeedMore (missing + 1))
after_id t s (status.Complete (x, n)) = sized x (spec_for t x) n (read_vint (drop n s))

-- the header at the front of s
unfoldable pub read_header : List Entry → List ℕ → Result (Status TagHeader) ParseError
read_header t s = after_id t s (read_tag_id s)

-- the answer asks for more bytes
abbrev pub header_needs_more : Result (Status TagHeader) ParseError → Bool
header_needs_more (Ok (status.NeedMore missing)) = true
header_needs_more (Err e) = false
header_needs_more (Ok (status.Complete h)) = false

-- how many bytes it asks for, at least: 0 where it asks for none
abbrev pub header_missing : Result (Status TagHeader) ParseError → ℕ
header_missing (Ok (status.NeedMore missing)) = missing
header_missing (Err e) = 0
header_missing (Ok (status.Complete h)) = 0

-- ---- what is accepted, as relations on octets

-- the n octets of an ID, whose number x is: the one byte 0, or the octets of a VINT, so "marker kept"
pub record IsId (x n : ℕ) (octets : List ℕ) : Type 0 where
  pub number : be_number octets ≡ x
  pub count : length octets ≡ n
  pub shape : (octets ≡ 0 ∷ []) ⊎ ((v : ℕ) × IsVint n v octets)

-- an ID of n octets, and right after it a size VINT of L octets with the value v: the header's octets are these n + L
pub record IsHeader (h : TagHeader) (s : List ℕ) : Type 0 where
  pub n : ℕ
  pub L : ℕ
  pub v : ℕ
  pub identifier : IsId h.id n (take n s)
  pub at_most_8 : n ≤ 8
  pub vint : Front L v (drop n s)
  pub whole : h.len ≤ length s
  pub taken : h.len ≡ n + L
  pub size : h.size ≡ size_of v L
  pub fits : too_long h.kind v ≡ false

-- its type and its path are those of its ID
pub record OfTable (t : List Entry) (h : TagHeader) : Type 0 where
  pub kind : h.kind ≡ data_type_of t h.id
  pub path : h.path ≡ range_of t h.id

-- ---- what asks for more, and what is refused

-- s is less than the octets of an ID, from the first on: a proper prefix of them, the empty list too
pub record IdPart (s : List ℕ) : Type 0 where
  pub x : ℕ
  pub n : ℕ
  pub octets : List ℕ
  pub identifier : IsId x n octets
  pub part : ProperPrefix s octets

-- s is less than the octets of an ID and of a size VINT right after it: a proper prefix of them, the empty list too
pub record HeaderPart (s : List ℕ) : Type 0 where
  pub x : ℕ
  pub n : ℕ
  pub L : ℕ
  pub v : ℕ
  pub id_octets : List ℕ
  pub size_octets : List ℕ
  pub identifier : IsId x n id_octets
  pub vint : IsVint L v size_octets
  pub part : ProperPrefix s (id_octets ++ size_octets)

-- a size VINT stands at the front of s, and is too long for the type
pub record TooLongSize (kind : TagDataType) (s : List ℕ) : Type 0 where
  pub L : ℕ
  pub v : ℕ
  pub vint : Front L v s
  pub over : too_long kind v ≡ true

-- right after an ID a "Size byte 0", or a size that is too long for the ID's type
pub record BadSize (t : List Entry) (s : List ℕ) : Type 0 where
  pub x : ℕ
  pub n : ℕ
  pub identifier : IsId x n (take n s)
  pub bad : FirstByte0 (drop n s) ⊎ TooLongSize (data_type_of t x) (drop n s)
