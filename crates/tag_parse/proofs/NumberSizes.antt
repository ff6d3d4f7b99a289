-- A number has at most 8 bytes: a header that reads says no more of a type 1, 2 or 5 (document 01, step 5), so that no
-- payload that a header announces is a number of over 8 bytes (document 02, CR 8). Assumes nothing.
use Prim.Native.Nat.{ℕ, ◌≤◌}
use mathlib.Core.Path.{◌≡◌, refl}
use mathlib.Core.Bool.{Bool, true, false, cond, ◌&&◌}
use mathlib.Core.List.{List}
use native.Mathlib.Omega.{arith}
use borrow.Author.Tests.{ltb-false}
use lib.Dec.{ltb}
use lib.ListN.{drop}
use Rattle.tools.specs.Vint.{all_ones, read_vint}
use Rattle.table.specs.Table.{Entry, spec_for}
use Rattle.table.specs.declared.types.TagDataType.{TagDataType}
use Rattle.table.specs.declared.types.TagDataType.TheVariants as type
use Rattle.tag_parse.specs.Header.{read_tag_id, size_of, numeric, too_long, sized, after_id, read_header}
use Rattle.tag_parse.specs.Payload.{is_integer}
use Rattle.tag_parse.specs.declared.types.EBMLSize.TheVariants as size
use Rattle.tag_parse.specs.declared.types.TagHeader.{TagHeader}
use Rattle.tag_parse.proofs.Headers.{made}
use Rattle.std.specs.Prelude.{Err, Ok, Result}
use Rattle.tools.specs.declared.status.Status.{Status}
use Rattle.tools.specs.declared.errors.ToolError.{ToolError}
use Rattle.tools.specs.declared.status.Status.TheVariants as status

-- a size that is not too long for a number, and is known, is at most 8
not_too_long : (kind : TagDataType) (v L n : ℕ) → numeric kind ≡ true → too_long kind v ≡ false → size_of v L ≡ size.Known n → n ≤ 8
unfolding too_long size_of
not_too_long kind v L n k short known = go (all_ones L v) known
  where
    at_most : (b : Bool) → ltb 8 v ≡ b → b && numeric kind ≡ false → v ≤ 8
    at_most true f q = let z : ◌≡◌ {A = ℕ} 0 1 = cc in absurd (omega arith)
    at_most false f q = ltb-false 8 v f

    go : (b : Bool) → cond b size.Unknown (size.Known v) ≡ size.Known n → n ≤ 8
    go true f = let z : ◌≡◌ {A = ℕ} 0 1 = cc in absurd (omega arith)
    go false f = let e : v ≡ n = cc in rw (← e) (at_most (ltb 8 v) refl short)

-- an integer is a number
pub integer_is_number : (kind : TagDataType) → is_integer kind ≡ true → numeric kind ≡ true
integer_is_number type.UnsignedInt k = refl
integer_is_number type.Integer k = refl
integer_is_number type.Utf8 k = k
integer_is_number type.Binary k = k
integer_is_number type.Float k = refl
integer_is_number type.Master k = k
integer_is_number type.Untyped k = k

-- the size that a header says of a number, where it says one, is at most 8
pub number_size : (t : List Entry) (s : List ℕ) (h : TagHeader) (n : ℕ) → read_header t s ≡ Ok (status.Complete h) → numeric h.kind ≡ true → h.size ≡ size.Known n → n ≤ 8
unfolding read_header after_id sized
number_size t s h n e k known = at-id (read_tag_id s) e
  where
    at_size : (x m : ℕ) (r : Result (Status (ℕ × ℕ)) ToolError) → sized x (spec_for t x) m r ≡ Ok (status.Complete h) → n ≤ 8
    at_size x m (Ok (status.NeedMore missing)) e = let z : ◌≡◌ {A = ℕ} 0 1 = cc in absurd (omega arith)
    at_size x m (Err o) e = let z : ◌≡◌ {A = ℕ} 0 1 = cc in absurd (omega arith)
    at_size x m (Ok (status.Complete (v, L))) e =
        let p = made x m v L (spec_for t x) h e in
        not_too_long (spec_for t x).kind v L n (rw (← p.0) at k) p.1 (rw (← p.0) at known)

    at-id : (r : Status (ℕ × ℕ)) → after_id t s r ≡ Ok (status.Complete h) → n ≤ 8
    at-id (status.NeedMore missing) e = let z : ◌≡◌ {A = ℕ} 0 1 = cc in absurd (omega arith)
    at-id (status.Complete (x, m)) e = at_size x m (read_vint (drop m s)) e
