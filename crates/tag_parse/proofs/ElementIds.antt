-- The bytes of an Element ID (tools/specs/ElementId.antt) read back as it, and no other bytes do. Assumes nothing.
use Prim.Native.Nat.{ℕ, ◌*◌}
use mathlib.Core.Path.{◌≡◌, sym, ap, ◌∙◌}
use mathlib.Core.Bool.{true}
use mathlib.Core.List.{List, [], ◌∷◌, ◌++◌}
use mathlib.Core.Logic.{◌⊎◌, inl, inr}
use native.Mathlib.Omega.{arith}
use lib.ListN.{take}
use lib.Pow.{pow_pos}
use lib.Seq.{take_at}
use Rattle.tools.specs.Bytes.{Octets, be_from, be_number}
use Rattle.tools.specs.Vint.{IsVint}
use Rattle.tools.specs.ElementId.{is_element_id, element_id_length, id_value, id_bytes}
use Rattle.tools.proofs.ElementIds.{id_octets, octets_only, id_marker}
use Rattle.tag_parse.specs.Header.{read_tag_id, IsId}
use Rattle.tag_parse.proofs.Ids.{id_sound, id_complete}
use Rattle.tools.specs.declared.status.Status.TheVariants as status

-- the bytes of an accepted ID are its octets
pub accepted_octets : (x : ℕ) → is_element_id x ≡ true → IsId x (element_id_length x) (id_bytes x)
accepted_octets x e =
    let L = element_id_length x in
    let i = id_octets x e in
    let m = id_marker x e in
    record { number = i.marked ∙ omega (arith, m.lo); count = i.count; shape = inr (id_value L x, i) }

-- so they read back as it, whatever follows
pub reads_back_lem : (x : ℕ) (rest : List ℕ) → is_element_id x ≡ true → read_tag_id (id_bytes x ++ rest) ≡ status.Complete (x, element_id_length x)
reads_back_lem x rest e =
    let i = accepted_octets x e in
    id_complete (id_bytes x ++ rest) x (element_id_length x) (rw (take_at (id_bytes x) rest (element_id_length x) i.count) i)

-- and bytes that read as it are these
pub only_bytes : (s : List ℕ) (x n : ℕ) → Octets s → is_element_id x ≡ true → read_tag_id s ≡ status.Complete (x, n) → take n s ≡ id_bytes x
unfolding be_from
only_bytes s x n byte e r = go i.shape
  where
    i : IsId x n (take n s)
    i = id_sound s x n byte r

    go : (take n s ≡ 0 ∷ []) ⊎ ((v : ℕ) × IsVint n v (take n s)) → take n s ≡ id_bytes x
    go (inl z) =
        let none : 0 ≡ x = sym (ap be_number z) ∙ i.number in
        absurd (omega (arith, (id_marker x e).lo, pow_pos (7 * element_id_length x)))
    go (inr (v, vint)) = octets_only x n v (take n s) e vint i.number
