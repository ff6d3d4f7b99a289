-- The path of a header that was read: the range in the header holds the path of its ID. Assumes nothing.
use Prim.Native.Nat.{ℕ, ◌≤◌}
use mathlib.Core.Path.{◌≡◌, ap}
use mathlib.Core.Bool.{true}
use mathlib.Core.List.{List}
use native.Mathlib.Omega.{arith}
use lib.ListN.{length}
use Rattle.table.specs.Shape.{most_parts, good_shape}
use Rattle.table.specs.Table.{table_of, parts_of, parts_in, path_of}
use Rattle.table.proofs.Entries.{path_of_lem}
use Rattle.table.proofs.Shaped.{at_most_16}
use Rattle.tag_parse.specs.Header.{read_header}
use Rattle.tag_parse.specs.declared.types.TagHeader.{TagHeader}
use Rattle.tag_parse.proofs.Headers.{header_spec}
use Rattle.std.specs.Prelude.{Ok}
use Rattle.tools.specs.declared.status.Status.TheVariants as status

module _ (es ps s : List ℕ) (h : TagHeader) (read : read_header (table_of es ps) s ≡ Ok (status.Complete h)) where
  -- what stands at the range
  pub path_read : parts_in (parts_of ps) h.path ≡ path_of (table_of es ps) h.id
  path_read = path_of_lem es ps h.id (header_spec (table_of es ps) s h read).path

  -- with a table of good shape it has few parts
  pub path_few : good_shape es ps ≡ true → length (parts_in (parts_of ps) h.path) ≤ most_parts
  path_few shape = omega (arith, ap length path_read, at_most_16 es ps shape h.id)
