-- Laws of vints over the width L that the proofs of the functions cite. Assumes nothing.
use Prim.Native.Nat.{ℕ, suc, ◌+◌, ◌*◌, ◌^◌, ◌≤◌, ◌<◌}
use mathlib.Core.Path.{◌≡◌, sym, ap, ◌∙◌}
use mathlib.Core.List.{List, [], ◌∷◌}
use native.Mathlib.Omega.{arith}
use native.Mathlib.Nat.{add-mul, one-mul, mul-le-mul_right, not-suc-le-zero, pow-suc}
use native.Mathlib.Numerals.{add-one}
use lib.Count.{count_leading_zeros, leading_top}
use lib.ListN.{length, get_or, take}
use lib.Pow.{pow-add, pow_mono}
use lib.Seq.{length-take-le}
use Rattle.tools.specs.Bytes.{Octets, be_from, be_number}
use Rattle.tools.specs.Vint.{vint_length}
use Rattle.tools.proofs.BigEndian.{be_from_split, be_lt, octets_take}

pub length-le_8 : (b : ℕ) → 0 < b → b < 2 ^ 8 → vint_length b ≤ 8
length-le_8 b p h = let t = leading_top 8 b p h in let e = t.1 in omega arith

-- the marker and a value below it fit 64 bits
pub marked_fits : (L v : ℕ) → L ≤ 8 → v < 2 ^ (7 * L) → 2 ^ (7 * L) + v < 2 ^ 64
marked_fits L v l h =
    let k : 7 * L ≤ 56 = omega arith in
    let m : 2 ^ (7 * L) ≤ 2 ^ 56 = pow_mono k in
    omega arith

-- the number of a vint's bytes lies between its marker and twice that
pub record Marked (L n : ℕ) : Type 0 where
  pub lo : 2 ^ (7 * L) ≤ n
  pub hi : n < 2 ^ (7 * L) * 2

pub marked : (s : List ℕ) → Octets s → 0 < length s → 0 < get_or s 0 0 → vint_length (get_or s 0 0) ≤ length s
    → Marked (vint_length (get_or s 0 0)) (be_number (take (vint_length (get_or s 0 0)) s))
unfolding be_from
marked [] byte z p l = absurd (not-suc-le-zero z)
marked (x ∷ xs) byte z p l =
    let t = leading_top 8 x p (byte 0) in
    let k = count_leading_zeros 8 x in
    let kl : k ≤ length xs = omega arith in
    let at : take (k + 1) (x ∷ xs) ≡ x ∷ take k xs = rw add-one in
    let P = 2 ^ (8 * k) in
    let low : be_number (take k xs) < 2 ^ (8 * length (take k xs)) = be_lt (take k xs) (octets_take k xs (λ i. byte (suc i))) in
    let low' : be_number (take k xs) < P = rw (length-take-le k xs kl) at low in
    let split : be_from (0 * 256 + x) (take k xs) ≡ (0 * 256 + x) * 2 ^ (8 * length (take k xs)) + be_number (take k xs) = be_from_split (0 * 256 + x) (take k xs) in
    let split' : be_from (0 * 256 + x) (take k xs) ≡ (0 * 256 + x) * P + be_number (take k xs) = rw (length-take-le k xs kl) at split in
    let a : 2 ^ t.0 * P ≤ (0 * 256 + x) * P = mul-le-mul_right P (omega (arith, t.2)) in
    let b : (0 * 256 + x + 1) * P ≤ 2 ^ suc t.0 * P = mul-le-mul_right P (omega (arith, t.3)) in
    let c : (0 * 256 + x + 1) * P ≡ (0 * 256 + x) * P + P = one_more (0 * 256 + x) P in
    let e : 2 ^ (7 * (k + 1)) ≡ 2 ^ t.0 * P = ap (λ (n : ℕ). 2 ^ n) (omega (arith, t.1)) ∙ pow-add 2 t.0 (8 * k) in
    let f : 2 ^ (7 * (k + 1)) * 2 ≡ 2 ^ suc t.0 * P = sym (pow-suc 2 (7 * (k + 1))) ∙ ap (λ (n : ℕ). 2 ^ n) (omega (arith, t.1)) ∙ pow-add 2 (suc t.0) (8 * k) in
    rw (at, split') (record { lo = omega arith; hi = omega arith })
  where
    one_more : (a p : ℕ) → (a + 1) * p ≡ a * p + p
    one_more a p = add-mul a 1 p ∙ ap (λ (x : ℕ). a * p + x) (one-mul p)
