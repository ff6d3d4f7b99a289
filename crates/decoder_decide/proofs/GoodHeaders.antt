-- What is known of a header that was read, and of the note that it leaves. Assumes nothing.
use Prim.Native.Nat.{ℕ, ◌≤◌, ◌<◌}
use mathlib.Core.Path.{◌≡◌, refl}
use mathlib.Core.Bool.{Bool, true, false, cond}
use mathlib.Core.List.{List}
use native.Mathlib.Omega.{arith}
use lib.ListN.{length}
use Rattle.tools.specs.Bytes.{Octets}
use Rattle.table.specs.Shape.{most_parts, good_shape}
use Rattle.table.specs.Table.{table_of, parts_of, parts_in}
use Rattle.table.specs.declared.types.Path.{Path}
use Rattle.tag_parse.specs.Header.{read_header}
use Rattle.tag_parse.specs.declared.types.EBMLSize.{EBMLSize}
use Rattle.tag_parse.specs.declared.types.EBMLSize.TheVariants.{Known, Unknown}
use Rattle.tag_parse.specs.declared.types.TagHeader.{TagHeader}
use Rattle.tag_parse.proofs.Headers.{header_sound, header_short, known_small}
use Rattle.tag_parse.proofs.NumberSizes.{number_size, integer_is_number}
use Rattle.decoder_rules.specs.OneCall.{step7}
use Rattle.decoder_rules.specs.declared.types.TagDecoder.{TagDecoder}
use Rattle.decoder_rules.specs.Record.{size_limit}
use Rattle.decoder_rules.proofs.HeaderPath.{path_read, path_few}
use Rattle.decoder_decide.specs.Bounds.{SmallSize, FitsKind}
use Rattle.decoder_decide.specs.Parts.{does_settle, settling_note, known_size}
use Rattle.decoder_decide.specs.GoodViews.{GoodHeader}
use Rattle.std.specs.Prelude.{None, Ok, Some}
use Rattle.tools.specs.declared.status.Status.TheVariants as status

-- ---- a header that was read

-- a size below the limit, as 11 asks it
pub small_size : (z : EBMLSize) → known_size z < size_limit → SmallSize z
small_size Unknown h = tt
small_size (Known n) h = h

-- a header that was read with a table of good shape is good
pub good_header : (es ps s : List ℕ) (h : TagHeader) → good_shape es ps ≡ true → Octets s → read_header (table_of es ps) s ≡ Ok (status.Complete h) → GoodHeader es ps h
good_header es ps s h shape byte e =
    let t = table_of es ps in
    let i = header_sound t s h byte e in
    record { short = header_short i; small = small h.size refl; fits = fits h.size refl; path = path_read es ps s h e; few = path_few es ps s h e shape }
  where
    small : (z : EBMLSize) → h.size ≡ z → known_size z < size_limit
    small Unknown q = omega arith
    small (Known m) q = known_small m (header_sound (table_of es ps) s h byte e) q

    fits : (z : EBMLSize) → h.size ≡ z → FitsKind h.kind z
    fits Unknown q = tt
    fits (Known m) q = λ k. number_size (table_of es ps) s h m e (integer_is_number h.kind k) q

-- ---- the note

-- the range in the header holds the ID's path, so the note by the range is that of step 7
pub note_of_path : (es ps : List ℕ) (d : TagDecoder) (h : TagHeader) → GoodHeader es ps h → settling_note ps d.settled h ≡ step7 (table_of es ps) d h
note_of_path es ps d h g = rw g.path

-- a note settles to the header's own path, which has at most 16 parts
pub note_short : (es ps : List ℕ) (settled : Bool) (h : TagHeader) (p : Path) → GoodHeader es ps h → settling_note ps settled h ≡ Some p → length (parts_in (parts_of ps) p) ≤ most_parts
note_short es ps settled h p g e = rw (own-path (does_settle ps settled h) e) g.few
  where
    own-path : (b : Bool) → cond b (Some h.path) None ≡ Some p → p ≡ h.path
    own-path true f = cc
    own-path false f = let z : ◌≡◌ {A = ℕ} 0 1 = cc in absurd (omega arith)
