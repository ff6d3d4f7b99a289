-- Document 02, CR 1: what as many bytes as are missing make of a header. Where its size vint is not begun, some make it
-- whole with the size 0; where it is begun, any make it whole, with a size between that of zeros and that of FF bytes.
-- Assumes nothing.
use Prim.Native.Nat.{ℕ, ◌+◌, ◌*◌, ◌^◌, ◌≤◌, ◌<◌}
use mathlib.Core.Bool.{true, true≢false}
use mathlib.Core.List.{List, [], ◌∷◌, ◌++◌, append_assoc}
use mathlib.Core.Logic.{◌⊎◌, inl, inr}
use mathlib.Core.Path.{◌≡◌, refl, sym, ap, ◌∙◌}
use native.Mathlib.Omega.{arith}
use lib.Count.{count_leading_zeros}
use lib.ListN.{length, drop, replicate, length-append, length-drop, length-replicate}
use lib.Seq.{drop_at, drop-append-le}
use Rattle.tools.specs.Bytes.{Octets, be_from}
use Rattle.tools.specs.Vint.{read_vint, vint_needs_more, vint_missing}
use Rattle.tools.proofs.BigEndian.{octets_append}
use Rattle.tools.proofs.Cases.{Reading, no_byte, first_zero, too_few, all_there, reading, read_none, read_zero, read_whole}
use Rattle.tools.proofs.Completing.{octets_ones, begun_missing, begun_whole, begun_least, begun_greatest, begun-over}
use Rattle.tools.proofs.Missing.{one_octet}
use Rattle.tools.proofs.Rfc8794.{read_sound}
use Rattle.table.specs.Table.{Entry, spec_for}
use Rattle.table.specs.declared.types.Spec.{Spec}
use Rattle.tag_parse.specs.Header.{read_tag_id, id_missing, size_of, header_of, sized_by, sized, read_header, header_needs_more, header_missing}
use Rattle.tag_parse.specs.Missing.{SizeBegun, size_length, size_with, CompletesToSize0}
use Rattle.tag_parse.specs.declared.types.EBMLSize.TheVariants as size
use Rattle.tag_parse.proofs.Cases.{not_long, header_sized, octets_drop}
use Rattle.tag_parse.proofs.Ids.{id_local}
use Rattle.tag_parse.proofs.Missing.{id_missing_lem, id_there, id_completed, sized_asks, part_missing, after_missing}
use Rattle.std.specs.Prelude.{Ok}
use Rattle.tools.specs.declared.status.Status.{Status}
use Rattle.tools.specs.declared.status.Status.TheVariants as status

-- a size byte 80 is the size 0
byte_80 : read_vint (128 ∷ []) ≡ Ok (status.Complete (0, 1))
unfolding read_vint count_leading_zeros be_from
byte_80 = refl

size_0 : (x : ℕ) (spec : Spec) (n : ℕ) → sized x spec n (read_vint (128 ∷ [])) ≡ Ok (status.Complete (header_of x spec n 0 1))
unfolding sized sized_by
size_0 x spec n = rw (byte_80, not_long spec.kind 0 (omega arith))

is_0 : size_of 0 1 ≡ size.Known 0
unfolding size_of
is_0 = refl

module _ (t : List Entry) (s : List ℕ) where
  -- an ID that is just whole, and 80
  ends_in_80 : (u : List ℕ) {x n : ℕ} → read_tag_id (s ++ u) ≡ status.Complete (x, n) → length (s ++ u) ≡ n
      → read_header t (s ++ (u ++ (128 ∷ []))) ≡ Ok (status.Complete (header_of x (spec_for t x) n 0 1))
  ends_in_80 u {x} {n} f all =
      rw (← append_assoc s u (128 ∷ []))
      (header_sized t ((s ++ u) ++ (128 ∷ [])) (id_local (s ++ u) (128 ∷ []) f) refl
      ∙ rw (drop_at (s ++ u) (128 ∷ []) n all) (size_0 x (spec_for t x) n))

  -- the ID is incomplete
  id_first : {m : ℕ} → read_tag_id s ≡ status.NeedMore m → CompletesToSize0 t s
  id_first {m} e =
      let q = (id_missing_lem s).enough in
      let count : length q.further ≡ m = q.count ∙ ap id_missing e in
      let w = id_completed s q.further e count q.none in
      record {
        further = q.further ++ (128 ∷ []);
        bytes = octets_append q.further (128 ∷ []) q.bytes one_octet;
        count = length-append q.further (128 ∷ []) ∙ rw (count, part_missing t s e);
        h = header_of w.x (spec_for t w.x) w.n 0 1;
        read = ends_in_80 q.further w.is w.all;
        empty = is_0;
      }

  -- no byte of the size is there
  size_first : {x n : ℕ} → read_tag_id s ≡ status.Complete (x, n) → length (drop n s) ≡ 0 → header_missing (read_header t s) ≡ 1 → CompletesToSize0 t s
  size_first {x} {n} e z one =
      let there = id_there s e in
      let all : length s ≡ n = omega (arith, length-drop n s) in
      record {
        further = 128 ∷ [];
        bytes = one_octet;
        count = sym one;
        h = header_of x (spec_for t x) n 0 1;
        read = header_sized t (s ++ (128 ∷ [])) (id_local s (128 ∷ []) e) refl ∙ rw (drop_at s (128 ∷ []) n all) (size_0 x (spec_for t x) n);
        empty = is_0;
      }

  -- a header that asks for more has a size that is begun, or some bytes make it whole with the size 0
  pub begun_or_0 : header_needs_more (read_header t s) ≡ true → SizeBegun s ⊎ CompletesToSize0 t s
  begun_or_0 = at-id (read_tag_id s) refl
    where
      behind : (x n : ℕ) → read_tag_id s ≡ status.Complete (x, n) → vint_needs_more (read_vint (drop n s)) ≡ true → Reading (drop n s) → SizeBegun s ⊎ CompletesToSize0 t s
      behind x n e m (no_byte z) = inr (size_first e z (after_missing t s e ∙ ap vint_missing (read_none (drop n s) z)))
      behind x n e m (first_zero some z) = absurd (true≢false (sym m ∙ ap vint_needs_more (read_zero (drop n s) some z)))
      behind x n e m (too_few some z h) = inl (record { x = x; n = n; whole = e; some = some; first = z; short = h })
      behind x n e m (all_there some z h) = absurd (true≢false (sym m ∙ ap vint_needs_more (read_whole (drop n s) some z h)))

      at-id : (r : Status (ℕ × ℕ)) → read_tag_id s ≡ r → header_needs_more (read_header t s) ≡ true → SizeBegun s ⊎ CompletesToSize0 t s
      at-id (status.NeedMore missing) e m = inr (id_first e)
      at-id (status.Complete (x, n)) e m =
          behind x n e (sym (ap header_needs_more (header_sized t s e refl) ∙ sized_asks x (spec_for t x) n (read_vint (drop n s))) ∙ m) (reading (drop n s))

  module _ (b : SizeBegun s) where
    -- so many are missing
    pub begun_count : header_missing (read_header t s) ≡ vint_missing (read_vint (drop b.n s))
    begun_count = after_missing t s b.whole

    -- any bytes make it whole
    pub begun_header : (u : List ℕ) → length u ≡ header_missing (read_header t s)
        → read_header t (s ++ u) ≡ sized_by b.x (spec_for t b.x) b.n (size_with b u) (size_length b)
    unfolding sized
    begun_header u e =
        header_sized t (s ++ u) (id_local s u b.whole) refl
        ∙ rw (drop-append-le b.n s u (id_there s b.whole), begun_whole (drop b.n s) b.some b.first b.short u (e ∙ begun_count))

    -- with a size that is at least that of zeros, at most that of FF bytes
    pub size_least : (u : List ℕ) → length u ≡ header_missing (read_header t s) → size_with b (replicate (header_missing (read_header t s)) 0) ≤ size_with b u
    size_least u e = rw begun_count (begun_least (drop b.n s) b.some b.first b.short u (e ∙ begun_count))

    pub size_greatest : (u : List ℕ) → Octets u → length u ≡ header_missing (read_header t s) → size_with b u ≤ size_with b (replicate (header_missing (read_header t s)) 255)
    size_greatest u byte e = rw begun_count (begun_greatest (drop b.n s) b.some b.first b.short u byte (e ∙ begun_count))

    -- where the least is not 0, the greatest is over 8, so more than a number has
    pub greatest_over_8 : 0 < size_with b (replicate (header_missing (read_header t s)) 0) → 8 < size_with b (replicate (header_missing (read_header t s)) 255)
    greatest_over_8 = rw begun_count (λ some. omega (arith, begun-over (drop b.n s) b.some b.first b.short some))

    -- and a vint's value
    pub greatest_below : Octets s → size_with b (replicate (header_missing (read_header t s)) 255) < 2 ^ (7 * size_length b)
    greatest_below byte =
        let m = header_missing (read_header t s) in
        let w = drop b.n s in
        let e = begun_whole w b.some b.first b.short (replicate m 255) (length-replicate m 255 ∙ begun_count) in
        (read_sound (w ++ replicate m 255) _ _ (octets_append w (replicate m 255) (octets_drop b.n s byte) (octets_ones m)) e).vint.below

    -- the header with them ends with the last byte
    pub begun_end : (u : List ℕ) → length u ≡ header_missing (read_header t s) → length (s ++ u) ≡ b.n + size_length b
    begun_end u e =
        let c = begun_count ∙ begun_missing (drop b.n s) b.some b.first b.short in
        let there = id_there s b.whole in
        let short = b.short in
        omega (arith, length-append s u, length-drop b.n s)
