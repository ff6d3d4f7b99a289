-- RFC 8794, section 5: `is_element_id` accepts exactly the numbers that are an Element ID, each of one length alone and
-- with one string of octets; what it accepts `is_vint` accepts too. Assumes nothing.
use Prim.Native.Nat.{ℕ, suc, ◌+◌, ◌-◌, ◌*◌, ◌^◌, ◌≤◌, ◌<◌}
use mathlib.Core.Path.{◌≡◌, sym, ◌∙◌}
use mathlib.Core.Bool.{true, false, not, ◌&&◌, false≢true}
use mathlib.Core.List.{List}
use mathlib.Core.Logic.{◌↔◌}
use native.Mathlib.Omega.{arith}
use native.Mathlib.Decide.{dec_le}
use native.Mathlib.Nat.{pow-suc}
use borrow.Author.Tests.{leb-true, ltb-true, eqb-false, not-true, le-leb, eq-eqb, eqb-true}
use lib.Dec.{leb, ltb, eqb}
use lib.Pow.{pow_mono}
use Rattle.basics.proofs.Bools.{both}
use Rattle.tools.specs.Bytes.{be_number}
use Rattle.tools.specs.Vint.{IsVint, MarkerAt, all_ones, is_vint, vint_bytes, Least}
use Rattle.tools.specs.ElementId.{IsElementId, marked_at, id_value, mixed_bits, shortest_form, is_id_of, element_id_length, is_element_id, id_bytes}
use Rattle.tools.proofs.BigEndian.{bytes_be}
use Rattle.tools.proofs.IdForms.{by_form}
use Rattle.tools.proofs.IsVint.{accepts}
use Rattle.tools.proofs.Least.{least}
use Rattle.tools.proofs.Rfc8794.{written_is}

-- ---- of L bytes

-- what the test of L bytes says
record Tested (L x : ℕ) : Type 0 where
  lo : 2 ^ (7 * L) ≤ x
  hi : x < 2 ^ (7 * L) * 2
  mixed : id_value L x ≡ 0 → ⊥
  open_bits : all_ones L (id_value L x) ≡ false
  bound : 2 ^ (7 * (L - 1)) - 1 ≤ id_value L x

tested : (L x : ℕ) → is_id_of L x ≡ true → Tested L x
unfolding is_id_of
tested L x e =
    let b = both (marked_at L x && mixed_bits L (id_value L x)) (shortest_form L (id_value L x)) e in
    let a = both (marked_at L x) (mixed_bits L (id_value L x)) b.left in
    let m = both (leb (2 ^ (7 * L)) x) (ltb x (2 ^ (7 * L) * 2)) a.left in
    let d = both (not (eqb (id_value L x) 0)) (not (all_ones L (id_value L x))) a.right in
    record {
      lo = leb-true _ _ m.left;
      hi = ltb-true _ _ m.right;
      mixed = eqb-false _ _ (not-true _ d.left);
      open_bits = not-true _ d.right;
      bound = leb-true _ _ b.right;
    }

-- what passes is an Element ID of L octets: those of the VINT of its data
pub of_length_sound : (L x : ℕ) → 1 ≤ L → L ≤ 8 → is_id_of L x ≡ true → IsElementId L x
of_length_sound L x p l e =
    let t = tested L x e in
    let v = id_value L x in
    let i = written_is L v p l (omega (arith, t.lo, t.hi)) in
    record {
      value = v;
      octets = vint_bytes L v;
      vint = i;
      number = i.marked ∙ omega (arith, t.lo);
      not_zeros = t.mixed;
      not_ones = t.open_bits;
      shortest = λ M fewer f h. eq-eqb _ _ (only-ones M f.below h t.bound);
    }
  where
    only-ones : (M : ℕ) → id_value L x < 2 ^ (7 * M) → M < L → 2 ^ (7 * (L - 1)) - 1 ≤ id_value L x → id_value L x ≡ 2 ^ (7 * M) - 1
    only-ones M b h lo =
        let q : 7 * M ≤ 7 * (L - 1) = omega arith in
        let m : 2 ^ (7 * M) ≤ 2 ^ (7 * (L - 1)) = pow_mono q in
        omega arith

-- the data of an ID of L octets is at least what fewer octets do not hold
long_enough : (L x : ℕ) (i : IsElementId L x) → 2 ^ (7 * (L - 1)) - 1 ≤ i.value
long_enough L x i = go (dec_le 2 L) (dec_le (2 ^ (7 * (L - 1))) i.value)
  where
    held : 2 ≤ L → i.value < 2 ^ (7 * (L - 1)) → 2 ^ (7 * (L - 1)) - 1 ≤ i.value
    held h b =
        let M = L - 1 in
        let f = written_is M i.value (omega arith) (omega (arith, i.vint.at_most_8)) b in
        let e : i.value ≡ 2 ^ (7 * M) - 1 = eqb-true _ _ (i.shortest M (vint_bytes M i.value) f (omega arith)) in
        omega arith

    go : Dec (2 ≤ L) → Dec (2 ^ (7 * (L - 1)) ≤ i.value) → 2 ^ (7 * (L - 1)) - 1 ≤ i.value
    go (yes h) (yes g) = omega arith
    go (yes h) (no f) = held h (omega arith)
    go (no f) g = let one : 7 * (L - 1) ≡ 0 = omega arith in rw one (omega arith)

-- and an Element ID of L octets passes
pub of_length_complete : (L x : ℕ) → IsElementId L x → is_id_of L x ≡ true
of_length_complete L x i =
    let n : 2 ^ (7 * L) + i.value ≡ x = sym i.vint.marked ∙ i.number in
    let v : id_value L x ≡ i.value = omega arith in
    by_form L x (omega arith) (omega (arith, i.vint.below)) (λ z. i.not_zeros (omega arith))
    (λ o. eqb-false i.value (2 ^ (7 * L) - 1) i.not_ones (omega arith))
    ∙ le-leb (2 ^ (7 * (L - 1)) - 1) (id_value L x) (omega (arith, long_enough L x i))

-- ---- of any length

chosen : (x : ℕ) → Least (λ L. is_id_of L x) 1 9 (element_id_length x)
chosen x = least (λ L. is_id_of L x) 8 1

-- what is accepted is an Element ID of its length
pub element_id_sound : (x : ℕ) → is_element_id x ≡ true → IsElementId (element_id_length x) x
unfolding is_element_id
element_id_sound x e =
    let h = leb-true _ _ e in
    of_length_sound (element_id_length x) x (chosen x).lo h ((chosen x).passes (omega arith))

-- the number of a VINT's octets has its highest bit where their count says
vint_marker : (x L v : ℕ) (octets : List ℕ) → IsVint L v octets → be_number octets ≡ x → MarkerAt x L
vint_marker x L v octets i n =
    let e : 2 ^ (7 * L) + v ≡ x = sym i.marked ∙ n in
    record { lo = omega arith; hi = omega (arith, i.below) }

marker_of : (L x : ℕ) → IsElementId L x → MarkerAt x L
marker_of L x i = vint_marker x L i.value i.octets i.vint i.number

-- a number has its highest bit at one place
no_higher : (x L M : ℕ) → MarkerAt x L → MarkerAt x M → M ≤ L
no_higher x L M a b = go (dec_le M L)
  where
    go : Dec (M ≤ L) → M ≤ L
    go (yes h) = h
    go (no f) =
        let q : suc (7 * L) ≤ 7 * M = omega arith in
        let m : 2 ^ suc (7 * L) ≤ 2 ^ (7 * M) = pow_mono q in
        absurd (omega (arith, pow-suc 2 (7 * L), a.hi, b.lo))

pub one_marker : (x L M : ℕ) → MarkerAt x L → MarkerAt x M → L ≡ M
one_marker x L M a b = omega (arith, no_higher x L M a b, no_higher x M L b a)

-- so an Element ID is accepted, and its length is the only one
pub element_id_complete : (L x : ℕ) → IsElementId L x → is_element_id x ≡ true
unfolding is_element_id
element_id_complete L x i = go (dec_le (element_id_length x) 8)
  where
    go : Dec (element_id_length x ≤ 8) → leb (element_id_length x) 8 ≡ true
    go (yes h) = le-leb _ _ h
    go (no f) =
        let none = (chosen x).none L i.vint.at_least_1 (omega (arith, i.vint.at_most_8)) in
        absurd (false≢true (sym none ∙ of_length_complete L x i))

-- an accepted number has its highest bit where its length says
pub id_marker : (x : ℕ) → is_element_id x ≡ true → MarkerAt x (element_id_length x)
id_marker x e = marker_of (element_id_length x) x (element_id_sound x e)

pub its_length : (L x : ℕ) → IsElementId L x → element_id_length x ≡ L
its_length L x i =
    one_marker x (element_id_length x) L (id_marker x (element_id_complete L x i)) (marker_of L x i)

-- accepted are exactly the Element IDs
pub element_id_exactly : (x : ℕ) → (is_element_id x ≡ true) ↔ ((L : ℕ) × IsElementId L x)
element_id_exactly x = ((λ e. (element_id_length x, element_id_sound x e)), (λ i. element_id_complete i.0 x i.1))

-- ---- its octets

-- the bytes of an accepted number are the octets of a VINT, whose number it is
pub id_octets : (x : ℕ) → is_element_id x ≡ true → IsVint (element_id_length x) (id_value (element_id_length x) x) (id_bytes x)
id_octets x e =
    let i = element_id_sound x e in
    let L = element_id_length x in
    let m = id_marker x e in
    let n : 2 ^ (7 * L) + id_value L x ≡ x = omega (arith, m.lo) in
    rw n at (written_is L (id_value L x) i.vint.at_least_1 i.vint.at_most_8 (omega (arith, m.lo, m.hi)))

-- and no other octets of a VINT have that number, of whatever length
pub octets_only : (x M w : ℕ) (octets : List ℕ) → is_element_id x ≡ true → IsVint M w octets → be_number octets ≡ x → octets ≡ id_bytes x
octets_only x M w octets e i n =
    let L = element_id_length x in
    let m = one_marker x M L (vint_marker x M w octets i n) (id_marker x e) in
    sym (bytes_be octets i.bytes) ∙ rw (i.count, n, m)

-- ---- beside `is_vint`

-- what is accepted, `is_vint` accepts
pub is_vint_too : (x : ℕ) → is_element_id x ≡ true → is_vint x ≡ true
is_vint_too x e =
    let i = element_id_sound x e in
    let m = id_marker x e in
    let k : 7 * element_id_length x ≤ 56 = omega (arith, i.vint.at_most_8) in
    let p : 2 ^ (7 * element_id_length x) ≤ 2 ^ 56 = pow_mono k in
    accepts x (element_id_length x) (omega (arith, m.hi)) m
