-- A header that is written is read back, whatever stands after it. Assumes nothing.
use Prim.Native.Nat.{ℕ, ◌+◌, ◌-◌, ◌^◌, ◌<◌}
use mathlib.Core.Path.{◌≡◌, refl, ap, ◌∙◌}
use mathlib.Core.Bool.{true, false}
use mathlib.Core.List.{List, ◌++◌, append_assoc}
use native.Mathlib.Omega.{arith}
use borrow.Author.Tests.{eqb-true}
use lib.Dec.{eqb}
use lib.ListN.{length, drop, length-append}
use lib.Seq.{drop_at}
use Rattle.basics.proofs.Bools.{both}
use Rattle.tools.specs.Vint.{vint_width, vint_bytes, read_vint}
use Rattle.tools.proofs.BigEndian.{length-be_bytes}
use Rattle.tools.proofs.Rfc8794.{least_back, least_known}
use Rattle.table.specs.Table.{Entry, data_type_of, range_of}
use Rattle.tag_parse.specs.Header.{read_tag_id, size_of, too_long, sized_by, sized, after_id, read_header}
use Rattle.tag_parse.specs.declared.types.EBMLSize.TheVariants.{Known}
use Rattle.tag_parse.specs.declared.types.TagHeader.{TagHeader}
use Rattle.tag_parse.proofs.Ids.{id_local}
use Rattle.tag_writer.specs.Document.{id_bytes, header_bytes}
use Rattle.tag_writer.specs.Write.{is_this_id, reads_back}
use Rattle.std.specs.Prelude.{Ok}
use Rattle.tools.specs.declared.status.Status.{Status}
use Rattle.tools.specs.declared.status.Status.TheVariants as status

is_this : (x n : ℕ) (r : Status (ℕ × ℕ)) → is_this_id x n r ≡ true → r ≡ status.Complete (x, n)
is_this x n (status.NeedMore missing) e = let z : ◌≡◌ {A = ℕ} 0 1 = cc in absurd (omega arith)
is_this x n (status.Complete (y, m)) e =
    let b = both (eqb y x) (eqb m n) e in
    let p : y ≡ x = eqb-true y x b.left in
    let q : m ≡ n = eqb-true m n b.right in
    cc

-- an ID that reads back does so
pub id_read : (x : ℕ) → reads_back x ≡ true → read_tag_id (id_bytes x) ≡ status.Complete (x, length (id_bytes x))
unfolding reads_back
id_read x e = is_this x (length (id_bytes x)) (read_tag_id (id_bytes x)) e

-- the header of an element of the table with n bytes in it
abbrev pub head_of : List Entry → ℕ → ℕ → TagHeader
head_of t x n = record {
  id = x;
  kind = data_type_of t x;
  path = range_of t x;
  size = Known n;
  len = length (header_bytes x n);
}

vint_length_lem : (n : ℕ) → length (vint_bytes (vint_width n) n) ≡ vint_width n
vint_length_lem n = length-be_bytes (vint_width n) _

module _ (t : List Entry) (x n : ℕ) (rest : List ℕ) (back : reads_back x ≡ true) (small : n < 2 ^ 56 - 1) (short : too_long (data_type_of t x) n ≡ false) where
  -- a header that is written is read
  pub header_back : read_header t (header_bytes x n ++ rest) ≡ Ok (status.Complete (head_of t x n))
  unfolding read_header after_id sized sized_by size_of header_bytes
  header_back =
      let I = id_bytes x in
      let W = vint_bytes (vint_width n) n in
      let less : n < 2 ^ 56 = omega arith in
      let one : read_tag_id (I ++ (W ++ rest)) ≡ status.Complete (x, length I) = id_local I (W ++ rest) (id_read x back) in
      let two : drop (length I) (I ++ (W ++ rest)) ≡ W ++ rest = drop_at I (W ++ rest) (length I) refl in
      let three : read_vint (W ++ rest) ≡ Ok (status.Complete (n, vint_width n)) = least_back n rest less in
      let four : length (I ++ W) ≡ length I + vint_width n = length-append I W ∙ ap (λ (k : ℕ). length I + k) (vint_length_lem n) in
      rw (append_assoc I W rest, one, two, three, short, least_known n small, four)
