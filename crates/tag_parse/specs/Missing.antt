-- Document 02, CR 1: what further bytes can make of a header that asks for more.
use Rattle.std.specs.Prelude.{ℕ, ◌<◌, List, ◌++◌, ◌≡◌, length, get_or, drop, Ok}
use Rattle.tools.specs.Bytes.{Octets}
use Rattle.tools.specs.Vint.{vint_length, vint_value}
use Rattle.table.specs.Table.{Entry}
use Rattle.tag_parse.specs.Header.{read_tag_id, read_header, header_missing}
use Rattle.tag_parse.specs.declared.types.EBMLSize.TheVariants as size
use Rattle.tag_parse.specs.declared.types.TagHeader.{TagHeader}
use Rattle.tools.specs.declared.status.Status.TheVariants as status

-- the ID is whole, and the size vint behind it is begun and not whole
pub record SizeBegun (s : List ℕ) : Type 0 where
  pub x : ℕ
  pub n : ℕ
  pub whole : read_tag_id s ≡ status.Complete (x, n)
  pub some : length (drop n s) ≡ 0 → ⊥
  pub first : get_or (drop n s) 0 0 ≡ 0 → ⊥
  pub short : length (drop n s) < vint_length (get_or (drop n s) 0 0)

-- the length of that vint
abbrev pub size_length : {s : List ℕ} → SizeBegun s → ℕ
size_length {s} b = vint_length (get_or (drop b.n s) 0 0)

-- its value with these bytes behind it
abbrev pub size_with : {s : List ℕ} → SizeBegun s → List ℕ → ℕ
size_with {s} b further = vint_value (size_length b) (drop b.n s ++ further)

-- some bytes, as many as are missing, make the header whole with the size 0
pub record CompletesToSize0 (t : List Entry) (s : List ℕ) : Type 0 where
  pub further : List ℕ
  pub bytes : Octets further
  pub count : length further ≡ header_missing (read_header t s)
  pub h : TagHeader
  pub read : read_header t (s ++ further) ≡ Ok (status.Complete h)
  pub empty : h.size ≡ size.Known 0
