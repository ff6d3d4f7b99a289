-- The payload of a value is the end of the value's own bytes. Assumes nothing.
use Prim.Native.Nat.{ℕ, zero, suc, ◌+◌, ◌-◌, ◌*◌, ◌/◌, ◌%◌, ◌^◌, ◌≤◌, ◌<◌}
use mathlib.Core.Path.{◌≡◌, refl, sym, ap, ap₂, ◌∙◌}
use mathlib.Core.List.{List, [], ◌∷◌}
use native.Mathlib.Nat.{add-mul, mul_assoc, add-mul-div_right}
use native.Mathlib.Omega.{arith}
use borrow.Author.Tests.{eqb-true, leb-true}
use lib.Dec.{leb, eqb}
use lib.IntN.{ℤ, pos, negsuc}
use lib.ListN.{length, take, drop, length-drop, drop_of_length-le}
use lib.Pow.{pow-add, pow_pos}
use lib.Seq.{take-nil, drop-drop, get_or-drop, length-take-le}
use lib.Signed.{mag}
use Rattle.basics.proofs.Bools.{pick, either}
use Rattle.tools.specs.Bytes.{Octets, be_number, be_bytes}
use Rattle.tools.specs.Twos.{signed_of, bits_of}
use Rattle.tools.proofs.BigEndian.{length-be_bytes, be_lt, bytes_be, octets_take}
use Rattle.tools.proofs.Complement.{mag_fits}
use Rattle.tools.proofs.Signed.{signed_back, in_range}
use Rattle.tag_writer.specs.Document.{Value, unsigned, integer, float, wrong, payload, unsigned_width, integer_width, integer_bytes}
use Rattle.tag_writer.specs.Items.{raw_at, of_eight, value_of, value_at}
use Rattle.tag_writer.proofs.HeaderPut.{lowest_last}
use Rattle.tag_writer.proofs.WidthLaws.{unsigned_least, integer_holds, integer_least}

-- ---- the lowest bytes

-- what is above them does not show in them
pub bytes_above : (k q n : ℕ) → be_bytes k (n + q * 2 ^ (8 * k)) ≡ be_bytes k n
unfolding be_bytes
bytes_above zero q n = refl
bytes_above (suc k) q n = rw e (ap₂ (λ (x : ℕ) (l : List ℕ). x ∷ l) top (bytes_above k (q * 256) n))
  where
    e : q * 2 ^ (8 * suc k) ≡ q * 256 * 2 ^ (8 * k)
    e = let m : 8 * suc k ≡ 8 + 8 * k = omega arith in rw m (ap (λ (x : ℕ). q * x) (pow-add 2 8 (8 * k)) ∙ sym (mul_assoc q 256 (2 ^ (8 * k))))

    top : (n + q * 256 * 2 ^ (8 * k)) / 2 ^ (8 * k) % 256 ≡ n / 2 ^ (8 * k) % 256
    top = rw (add-mul-div_right n (q * 256) (pow_pos (8 * k))) (omega arith)

-- bits in 64 are, in their lowest bytes, the bits in fewer
fewer_bits : (k : ℕ) (z : ℤ) → k ≤ 8 → mag z < 2 ^ (8 * k) → be_bytes k (bits_of (8 * k) z) ≡ be_bytes k (bits_of 64 z)
fewer_bits k (pos n) h m = refl
fewer_bits k (negsuc n) h m =
    let P = 2 ^ (8 * k) in
    let q = 2 ^ (64 - 8 * k) - 1 in
    let s : 64 - 8 * k + 8 * k ≡ 64 = omega arith in
    let whole : (q + 1) * P ≡ 2 ^ 64 = rw up (sym (pow-add 2 (64 - 8 * k) (8 * k)) ∙ ap (λ (x : ℕ). 2 ^ x) s) in
    let e : 2 ^ 64 - 1 - n ≡ P - 1 - n + q * P = omega (arith, whole, add-mul q 1 P) in
    sym (ap (be_bytes k) e ∙ bytes_above k q (P - 1 - n))
  where
    up : 2 ^ (64 - 8 * k) - 1 + 1 ≡ 2 ^ (64 - 8 * k)
    up = omega (arith, pow_pos (64 - 8 * k))

-- ---- the end of a list

-- P is the end of raw
pub record Last (P raw : List ℕ) : Type 0 where
  pub short : length P ≤ length raw
  pub is : P ≡ drop (length raw - length P) raw

all_last : (raw : List ℕ) → Last raw raw
all_last raw = record { short = omega arith; is = let e : length raw - length raw ≡ 0 = omega arith in rw e }

none_last : (raw : List ℕ) → Last [] raw
none_last raw = record { short = omega arith; is = sym (drop_of_length-le raw {i = length raw - 0} (omega arith)) }

module _ (raw : List ℕ) (byte : Octets raw) (eight : length raw ≡ 8) where
  number_last : (k : ℕ) → k ≤ 8 → Last (be_bytes k (be_number raw)) raw
  number_last k h =
      let n = length-be_bytes k (be_number raw) in
      let s : length raw ≡ length raw - k + k = omega arith in
      record {
        short = omega arith;
        is = rw n (sym (ap (drop (length raw - k)) (sym (bytes_be raw byte) ∙ ap (λ (j : ℕ). be_bytes j (be_number raw)) s) ∙ lowest_last (length raw - k) k (be_number raw)));
      }

  small : be_number raw < 2 ^ 64
  small = rw eight at (be_lt raw byte)

  some : (z : ℤ) → bits_of 64 z ≡ be_number raw → mag z < 2 ^ 63 → Last (be_bytes (integer_width z) (bits_of (8 * integer_width z) z)) raw
  some z e m =
      let k = integer_width z in
      let h : k ≤ 8 = (integer_least z).hi in
      rw (fewer_bits k z h (mag_fits z (8 * k) (integer_holds z m)), e) (number_last k h)

  integer_last : (z : ℤ) → bits_of 64 z ≡ be_number raw → mag z < 2 ^ 63 → Last (integer_bytes z) raw
  unfolding integer_bytes
  integer_last (pos zero) e m = none_last raw
  integer_last (pos (suc n)) e m = some (pos (suc n)) e m
  integer_last (negsuc n) e m = some (negsuc n) e m

  signed_last : Last (integer_bytes (signed_of 64 (be_number raw))) raw
  signed_last =
      integer_last (signed_of 64 (be_number raw)) (signed_back 64 (be_number raw) (omega arith) small) (in_range 64 (be_number raw) (omega arith) small)

value_last : (kind : ℕ) (raw : List ℕ) → Octets raw → Last (payload (value_of kind raw)) raw
unfolding value_of payload
value_last kind raw byte =
    either G (eqb kind 1) _ _ (number (unsigned n) (λ e. number_last raw byte e (unsigned_width n) (unsigned_least n).hi))
    (either G (eqb kind 2) _ _ (number (integer (signed_of 64 n)) (λ e. signed_last raw byte e))
    (either G (eqb kind 3) _ _ (all_last raw)
    (either G (eqb kind 4) _ _ (all_last raw)
    (either G (eqb kind 5) _ _ (number (float n) (λ e. number_last raw byte e 8 (omega arith))) (none_last raw)))))
  where
    n : ℕ
    n = be_number raw

    G : Value → Type 0
    G v = Last (payload v) raw

    number : (v : Value) → (length raw ≡ 8 → G v) → G (of_eight raw v)
    number v h = pick G (eqb (length raw) 8) v wrong (λ e. h (eqb-true _ _ e)) (λ e. none_last raw)

-- ---- in the lent values

drop-take : (t n : ℕ) (l : List ℕ) → drop t (take n l) ≡ take (n - t) (drop t l)
drop-take zero n l = let e : n - 0 ≡ n = omega arith in rw e
drop-take (suc t) zero l = let e : 0 - suc t ≡ 0 = omega arith in rw e
drop-take (suc t) (suc n) [] = sym (take-nil (suc n - suc t))
drop-take (suc t) (suc n) (x ∷ l) = let e : suc n - suc t ≡ n - t = omega arith in rw e (drop-take t n l)

-- a payload that is not empty lies in the values, at the end of its range
pub record InValues (P vals : List ℕ) (offset n : ℕ) : Type 0 where
  pub inside : offset + n ≤ length vals
  pub short : length P ≤ n
  pub is : P ≡ take (length P) (drop (offset + (n - length P)) vals)

module _ (vals : List ℕ) (byte : Octets vals) (kind offset n : ℕ) where
  abbrev P : List ℕ
  P = payload (value_at vals kind offset n)

  pub in_values : (length P ≡ 0 → ⊥) → InValues P vals offset n
  unfolding value_at payload
  in_values some = pick G (leb (offset + n) (length vals)) (value_of kind raw) wrong (λ e q. there (leb-true _ _ e)) (λ e q. absurd (q refl)) some
    where
      G : Value → Type 0
      G v = (length (payload v) ≡ 0 → ⊥) → InValues (payload v) vals offset n

      raw : List ℕ
      raw = raw_at vals offset n

      octets : Octets raw
      octets = octets_take n (drop offset vals) (λ i. rw (get_or-drop offset vals i 0) (byte (offset + i)))

      there : offset + n ≤ length vals → InValues (payload (value_of kind raw)) vals offset n
      there h =
          let v = payload (value_of kind raw) in
          let l = value_last kind raw octets in
          let c : length raw ≡ n = length-take-le n (drop offset vals) (omega (arith, length-drop offset vals)) in
          let s : length v ≤ n = omega (arith, l.short) in
          let d : n - (n - length v) ≡ length v = omega arith in
          record {
            inside = h;
            short = s;
            is = l.is ∙ ap (λ (k : ℕ). drop (k - length v) raw) c ∙ drop-take (n - length v) n (drop offset vals)
                ∙ ap₂ (λ (k : ℕ) (r : List ℕ). take k r) d (drop-drop (n - length v) offset vals);
          }
