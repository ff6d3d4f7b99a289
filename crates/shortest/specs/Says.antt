-- Which bytes say a document with known sizes, and floats in 8 bytes. RFC 8794, section 3: an element is its ID, its
-- data size and its data, and a Master's data are its children. A size and a number may stand in more bytes than they
-- need (sections 4 and 7), so that many bytes say the same document.
use Rattle.std.specs.Prelude.{ℕ, ◌+◌, ◌≤◌, ◌≡◌, Bool, true, false, List, length, take, drop, Ok}
use Rattle.table.specs.Table.{Entry}
use Rattle.table.specs.declared.types.TagDataType.{TagDataType}
use Rattle.table.specs.declared.types.TagDataType.TheVariants.{Master}
use Rattle.tag_parse.specs.Header.{read_header}
use Rattle.tag_parse.specs.Payload.{value_of}
use Rattle.tag_parse.specs.declared.types.EBMLSize.TheVariants.{Known}
use Rattle.tag_parse.specs.declared.types.TagHeader.{TagHeader}
use Rattle.tag_parse.specs.declared.types.TagValue.{TagValue}
use Rattle.tag_writer.specs.Document.{Value, unsigned, integer, text, binary, float, wrong, Element, value, master, Run, none, then}
use Rattle.tag_writer.specs.ReadBack.{said_value}
use Rattle.tools.specs.declared.status.Status.TheVariants as status

-- ---- one element

-- at the front of s stands a header of the ID x with the known size n; all that it says is there, and u stands after it
pub record Headed (t : List Entry) (s : List ℕ) (x n : ℕ) (u : List ℕ) : Type 0 where
  pub its : TagHeader
  pub read : read_header t s ≡ Ok (status.Complete its)
  pub id : its.id ≡ x
  pub known : its.size ≡ Known n
  pub whole : its.len + n ≤ length s
  pub after : u ≡ drop (its.len + n) s

-- the payload s of this type is read as the value v, strictly or as ported
pub record SaysValue (strict : Bool) (kind : TagDataType) (s : List ℕ) (v : Value) : Type 0 where
  pub told : TagValue
  pub read : value_of strict kind s (record { begin = 0; end = length s }) ≡ Ok told
  pub same : said_value s told ≡ v

-- whether a value is a float
abbrev pub is_float : Value → Bool
is_float (unsigned n) = false
is_float (integer z) = false
is_float (text s) = false
is_float (binary s) = false
is_float (float b) = true
is_float wrong = false

-- s begins with the value v of the ID x, and u stands after it; a float has 8 bytes
pub record SaysDatum (strict : Bool) (t : List Entry) (s : List ℕ) (x : ℕ) (v : Value) (u : List ℕ) : Type 0 where
  pub size : ℕ
  pub headed : Headed t s x size u
  pub says : SaysValue strict headed.its.kind (take size (drop headed.its.len s)) v
  pub wide : is_float v ≡ true → size ≡ 8

-- ---- a document

unfoldable mutual
  -- s begins with this element, of known size, and u stands after it
  pub SaysElement : Bool → List Entry → List ℕ → Element → List ℕ → Type 0
  SaysElement strict t s (value x v) u = SaysDatum strict t s x v u
  SaysElement strict t s (master x r) u =
      (n : ℕ) × (h : Headed t s x n u) × (h.its.kind ≡ Master) × Says strict t (drop h.its.len s) r u

  -- s begins with the elements of this run, one right after the other, and u stands after them
  pub Says : Bool → List Entry → List ℕ → Run → List ℕ → Type 0
  Says strict t s none u = s ≡ u
  Says strict t s (then e r) u = (rest : List ℕ) × SaysElement strict t s e rest × Says strict t rest r u
