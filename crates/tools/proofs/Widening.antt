-- What a binary32 pattern denotes, written with the fields of binary64. Assumes nothing.
use Prim.Native.Nat.{ℕ, zero, suc, ◌+◌, ◌-◌, ◌*◌, ◌/◌, ◌%◌, ◌^◌, ◌≤◌, ◌<◌}
use mathlib.Core.Path.{◌≡◌, refl, sym, ap, ap₂, ◌∙◌}
use mathlib.Core.Bool.{Bool, true, false, not}
use native.Mathlib.Omega.{arith}
use native.Mathlib.Nat.{not-suc-le-zero, mul-div-mul_right, mul-one, mul-pos, pow-suc, add-sub_of_le, le_trans, mul-le-mul_right, mul-lt-mul_of_pos_right, mod-eq_of_lt, lt_of_lt_of_le}
use native.Mathlib.Decide.{dec_le}
use borrow.Author.Tests.{le-leb, lt-leb, lt-ltb, le-ltb, ne_eqb}
use lib.Dec.{T, leb}
use lib.IntN.{pos, negsuc}
use lib.Pow.{pow_pos, pow_mono, pow-add}
use lib.Bits.{shifted_half, shifted_even}
use lib.Count.{count_trailing_zeros, count_leading_zeros, leading_top, under}
use lib.Ieee.{fin, Format, binary32, binary64, prec, hid, low, ones, minus, odd, of_fields, of_bits, to_bits, nan_bits, is_nan}
use lib.Ieee.Bits.{to_bits-of_bits, nan_bits_is, nan_bits_above}
use Rattle.tools.specs.Float.{widened, subnormal_of}

-- j zeros below the digits of q
tz_shift : (j d q : ℕ) → count_trailing_zeros (j + d) (q * 2 ^ j) ≡ j + count_trailing_zeros d q
unfolding count_trailing_zeros
tz_shift zero d q = ap₂ count_trailing_zeros (zero-plus d) (mul-one q) ∙ sym (zero-plus (count_trailing_zeros d q))
  where
    zero-plus : (x : ℕ) → 0 + x ≡ x
    zero-plus x = omega arith
tz_shift (suc j) d q =
    let e : suc j + d ≡ suc (j + d) = omega arith in
    let f : suc j + count_trailing_zeros d q ≡ suc (j + count_trailing_zeros d q) = omega arith in
    rw (e, f) (ap₂ (λ (r x : ℕ). under r (count_trailing_zeros (j + d) x)) (shifted_even q j) (shifted_half q j) ∙ ap suc (tz_shift j d q))

-- places above a number's digits count for nothing
tz_more : (d i q : ℕ) → 0 < q → q < 2 ^ d → count_trailing_zeros (d + i) q ≡ count_trailing_zeros d q
unfolding count_trailing_zeros
tz_more zero i q p h = absurd (omega arith)
tz_more (suc d) i q p h =
    let e : suc d + i ≡ suc (d + i) = omega arith in
    rw e (go (q % 2) refl (λ z. tz_more d i (q / 2) z (half (pow-suc 2 d))))
  where
    half : 2 ^ suc d ≡ 2 ^ d * 2 → q / 2 < 2 ^ d
    half e = omega arith

    go : (r : ℕ) → q % 2 ≡ r → (0 < q / 2 → count_trailing_zeros (d + i) (q / 2) ≡ count_trailing_zeros d (q / 2))
        → under (q % 2) (count_trailing_zeros (d + i) (q / 2)) ≡ under (q % 2) (count_trailing_zeros d (q / 2))
    go zero e rest = let z : 0 < q / 2 = omega arith in ap (under (q % 2)) (rest z)
    go (suc r) e rest = rw e

minus_eq : (a b a' b' : ℕ) → a + b' ≡ a' + b → minus a b ≡ minus a' b'
minus_eq a b a' b' e = go (dec_le b a)
  where
    go : Dec (b ≤ a) → minus a b ≡ minus a' b'
    go (yes h) =
        let h' : b' ≤ a' = omega arith in
        let d : a - b ≡ a' - b' = omega arith in
        rw (le-leb _ _ h, le-leb _ _ h') (ap pos d)
    go (no f) =
        let h : a < b = omega arith in
        let h' : a' < b' = omega arith in
        let d : b - suc a ≡ b' - suc a' = omega arith in
        rw (lt-leb _ _ h, lt-leb _ _ h') (ap negsuc d)

odd_pos : (d : ℕ) (s : Bool) (q k l : ℕ) → 0 < q → odd d s q k l ≡ fin s (q / 2 ^ count_trailing_zeros d q) (minus (k + count_trailing_zeros d q) l)
unfolding odd
odd_pos d s zero k l h = absurd (not-suc-le-zero h)
odd_pos d s (suc q) k l h = refl

-- the same number, with j more digits below
pub odd_shift : (s : Bool) (j d i q k l k' l' : ℕ) → 0 < q → q < 2 ^ d → k' + j + l ≡ k + l' → odd (j + d) s (q * 2 ^ j) k' l' ≡ odd (d + i) s q k l
odd_shift s j d i q k l k' l' p h e =
    let t = count_trailing_zeros d q in
    let z : count_trailing_zeros (j + d) (q * 2 ^ j) ≡ j + t = tz_shift j d q in
    let y : count_trailing_zeros (d + i) q ≡ t = tz_more d i q p h in
    let pp : 0 < q * 2 ^ j = mul-pos p (pow_pos j) in
    let m : q * 2 ^ j / 2 ^ (j + t) ≡ q / 2 ^ t = ap (λ (x : ℕ). q * 2 ^ j / x) (ap (λ (x : ℕ). 2 ^ x) (swap j t) ∙ pow-add 2 t j) ∙ mul-div-mul_right q (2 ^ t) (pow_pos j) in
    rw (odd_pos (j + d) s (q * 2 ^ j) k' l' pp, odd_pos (d + i) s q k l p, z, m, y)
    (ap (fin s (q / 2 ^ t)) (minus_eq (k' + (j + t)) l' (k + t) l (omega arith)))
  where
    swap : (a b : ℕ) → a + b ≡ b + a
    swap a b = omega arith

-- ---- the fields of 64 bits

module _ (s x y : ℕ) (hs : s < 2) (hx : x < 2048) (hy : y < 2 ^ 52) where
  abbrev pub joined : ℕ
  joined = s * 2 ^ 63 + x * 2 ^ 52 + y

  pub joined-lt : joined < 2 ^ 64
  joined-lt = omega arith

  pub joined_is : of_bits binary64 joined ≡ of_fields binary64 (leb (2 ^ 63) joined) x y
  unfolding of_bits
  joined_is =
      let e : joined % 2 ^ 63 / 2 ^ 52 ≡ x = omega arith in
      let f : joined % 2 ^ 52 ≡ y = omega arith in
      rw (e, f)

-- the sign is the highest bit of either
pub same_sign : (b w : ℕ) → (2 ^ 31 ≤ b → 2 ^ 63 ≤ w) → (b < 2 ^ 31 → w < 2 ^ 63) → leb (2 ^ 63) w ≡ leb (2 ^ 31) b
same_sign b w up down = go (dec_le (2 ^ 31) b)
  where
    go : Dec (2 ^ 31 ≤ b) → leb (2 ^ 63) w ≡ leb (2 ^ 31) b
    go (yes h) = le-leb _ _ (up h) ∙ sym (le-leb _ _ h)
    go (no f) = let h : b < 2 ^ 31 = omega arith in lt-leb _ _ (down h) ∙ sym (lt-leb _ _ h)

-- so the 64 bits are those of the 32 bits' number
pub widen_is : (b w : ℕ) → w < 2 ^ 64 → nan_bits binary32 b ≡ false → of_bits binary64 w ≡ of_bits binary32 b → to_bits binary64 (of_bits binary32 b) ≡ w
widen_is b w l n e =
    let h : T (not (is_nan (of_bits binary64 w))) = rw (e, ← nan_bits_is binary32 b, n) tt in
    ap (to_bits binary64) (sym e) ∙ to_bits-of_bits binary64 w l h

module _ (b : ℕ) (lt : b < 2 ^ 32) (nn : nan_bits binary32 b ≡ false) where
  -- from the fields: a sign of both, and one value
  pub by_fields : (x y : ℕ) → x < 2048 → y < 2 ^ 52
      → ((s : Bool) → of_fields binary64 s x y ≡ of_fields binary32 s (b % 2 ^ 31 / 2 ^ 23) (b % 2 ^ 23))
      → to_bits binary64 (of_bits binary32 b) ≡ b / 2 ^ 31 * 2 ^ 63 + x * 2 ^ 52 + y
  unfolding of_bits
  by_fields x y hx hy e =
      let w = b / 2 ^ 31 * 2 ^ 63 + x * 2 ^ 52 + y in
      let hs : b / 2 ^ 31 < 2 = omega arith in
      let sign : leb (2 ^ 63) w ≡ leb (2 ^ 31) b = same_sign b w (λ h. omega arith) (λ h. omega arith) in
      widen_is b w (joined-lt (b / 2 ^ 31) x y hs hx hy) nn
      (joined_is (b / 2 ^ 31) x y hs hx hy ∙ ap (λ (t : Bool). of_fields binary64 t x y) sign ∙ e (leb (2 ^ 31) b))

  -- an infinity
  pub wide_inf : b % 2 ^ 31 / 2 ^ 23 ≡ 255 → b % 2 ^ 23 ≡ 0 → to_bits binary64 (of_bits binary32 b) ≡ b / 2 ^ 31 * 2 ^ 63 + 2047 * 2 ^ 52 + 0
  unfolding of_fields
  wide_inf e f = by_fields 2047 0 (omega arith) (omega arith) (λ s. rw (e, f))

  -- a zero
  pub wide_zero : b % 2 ^ 31 / 2 ^ 23 ≡ 0 → b % 2 ^ 23 ≡ 0 → to_bits binary64 (of_bits binary32 b) ≡ b / 2 ^ 31 * 2 ^ 63 + 0 * 2 ^ 52 + 0
  unfolding of_fields
  wide_zero e f = by_fields 0 0 (omega arith) (omega arith) (λ s. rw (e, f))

-- a field that is neither 0 nor all ones
pub fields_normal : (f : Format) (s : Bool) (x t : ℕ) → 0 < x → (x ≡ ones f → ⊥) → of_fields f s x t ≡ odd (prec f) s (hid f + t) (x - 1) (low f)
unfolding of_fields
fields_normal f s zero t p n = absurd (not-suc-le-zero p)
fields_normal f s (suc x) t p n = let o : suc x - 1 ≡ x = omega arith in rw (ne_eqb _ _ n, o)

normal_fields : (s : Bool) (x t : ℕ) → 0 < x → x < 255 → t < 2 ^ 23 → of_fields binary64 s (x + 896) (t * 2 ^ 29) ≡ of_fields binary32 s x t
normal_fields s x t p l h =
    let q : 2 ^ 52 + t * 2 ^ 29 ≡ (2 ^ 23 + t) * 2 ^ 29 = omega arith in
    fields_normal binary64 s (x + 896) (t * 2 ^ 29) (omega arith) (λ e. omega arith)
    ∙ ap (λ (n : ℕ). odd 53 s n (x + 896 - 1) 1074) q
    ∙ odd_shift s 29 24 0 (2 ^ 23 + t) (x - 1) 149 (x + 896 - 1) 1074 (omega arith) (omega arith) (omega arith)
    ∙ sym (fields_normal binary32 s x t p (λ e. omega arith))

sub_fields : (s : Bool) (p t : ℕ) → p ≤ 22 → 2 ^ p ≤ t → t < 2 ^ suc p → of_fields binary64 s (p + 874) (t * 2 ^ (52 - p) - 2 ^ 52) ≡ of_fields binary32 s 0 t
unfolding of_fields
sub_fields s p t l lo hi =
    let up : 2 ^ p * 2 ^ (52 - p) ≡ 2 ^ 52 = sym (pow-add 2 p (52 - p)) ∙ ap (λ (n : ℕ). 2 ^ n) (add-sub_of_le (le_trans l (omega arith))) in
    let ge : 2 ^ p * 2 ^ (52 - p) ≤ t * 2 ^ (52 - p) = mul-le-mul_right (2 ^ (52 - p)) lo in
    let q : 2 ^ 52 + (t * 2 ^ (52 - p) - 2 ^ 52) ≡ t * 2 ^ (52 - p) = omega arith in
    let d : 52 - p + suc p ≡ 53 = omega arith in
    let d' : suc p + (23 - p) ≡ 24 = omega arith in
    fields_normal binary64 s (p + 874) (t * 2 ^ (52 - p) - 2 ^ 52) (omega arith) (λ e. omega arith)
    ∙ ap (λ (n : ℕ). odd 53 s n (p + 874 - 1) 1074) q
    ∙ (rw (d, d') at (odd_shift s (52 - p) (suc p) (23 - p) t 0 149 (p + 874 - 1) 1074 (omega (arith, pow_pos p)) hi (omega arith)))

module _ (b : ℕ) (lt : b < 2 ^ 32) (nn : nan_bits binary32 b ≡ false) where
  pub wide_normal : 0 < b % 2 ^ 31 / 2 ^ 23 → b % 2 ^ 31 / 2 ^ 23 < 255
      → to_bits binary64 (of_bits binary32 b) ≡ b / 2 ^ 31 * 2 ^ 63 + (b % 2 ^ 31 / 2 ^ 23 + 896) * 2 ^ 52 + b % 2 ^ 23 * 2 ^ 29
  wide_normal p l =
      by_fields b lt nn (b % 2 ^ 31 / 2 ^ 23 + 896) (b % 2 ^ 23 * 2 ^ 29) (omega arith) (omega arith)
      (λ s. normal_fields s (b % 2 ^ 31 / 2 ^ 23) (b % 2 ^ 23) p l (omega arith))

  pub wide_sub : (p : ℕ) → p ≤ 22 → 2 ^ p ≤ b % 2 ^ 23 → b % 2 ^ 23 < 2 ^ suc p → b % 2 ^ 31 / 2 ^ 23 ≡ 0
      → to_bits binary64 (of_bits binary32 b) ≡ b / 2 ^ 31 * 2 ^ 63 + (p + 874) * 2 ^ 52 + (b % 2 ^ 23 * 2 ^ (52 - p) - 2 ^ 52)
  wide_sub p l lo hi e =
      let t = b % 2 ^ 23 in
      let up : 2 ^ suc p * 2 ^ (52 - p) ≡ 2 ^ 53 = sym (pow-add 2 (suc p) (52 - p)) ∙ ap (λ (n : ℕ). 2 ^ n) (fifty-three p l) in
      let le : t * 2 ^ (52 - p) < 2 ^ suc p * 2 ^ (52 - p) = mul-lt-mul_of_pos_right hi (pow_pos (52 - p)) in
      by_fields b lt nn (p + 874) (t * 2 ^ (52 - p) - 2 ^ 52) (omega arith) (omega arith)
      (λ s. rw e (sub_fields s p t l lo hi))
    where
      fifty-three : (p : ℕ) → p ≤ 22 → suc p + (52 - p) ≡ 53
      fifty-three p l = omega arith

-- where a subnormal's highest bit is
pub record Top (t z : ℕ) : Type 0 where
  pub p : ℕ
  pub is : z + suc p ≡ 64
  pub low_p : p ≤ 22
  pub lo : 2 ^ p ≤ t
  pub hi : t < 2 ^ suc p
  pub shifted_lo : 2 ^ 52 ≤ t * 2 ^ (z - 11)
  pub shifted_hi : t * 2 ^ (z - 11) < 2 ^ 53

pub top : (t : ℕ) → 0 < t → t < 2 ^ 23 → Top t (count_leading_zeros 64 t)
top t pos-t l =
    let k = leading_top 64 t pos-t (lt_of_lt_of_le l (pow_mono small)) in
    make k.0 k.1 k.2 k.3 (dec_le k.0 22)
  where
    small : 23 ≤ 64
    small = omega arith

    make : (p : ℕ) → count_leading_zeros 64 t + suc p ≡ 64 → 2 ^ p ≤ t → t < 2 ^ suc p → Dec (p ≤ 22) → Top t (count_leading_zeros 64 t)
    make p is lo hi (no f) = let g : 23 ≤ p = omega arith in let h : 2 ^ 23 ≤ 2 ^ p = pow_mono g in absurd (omega arith)
    make p is lo hi (yes l) =
        let z = count_leading_zeros 64 t in
        let e : z - 11 ≡ 52 - p = omega arith in
        let up : 2 ^ p * 2 ^ (52 - p) ≡ 2 ^ 52 = sym (pow-add 2 p (52 - p)) ∙ ap (λ (n : ℕ). 2 ^ n) (sum p l) in
        let up' : 2 ^ suc p * 2 ^ (52 - p) ≡ 2 ^ 53 = sym (pow-add 2 (suc p) (52 - p)) ∙ ap (λ (n : ℕ). 2 ^ n) (sum' p l) in
        record {
          p = p;
          is = is;
          low_p = l;
          lo = lo;
          hi = hi;
          shifted_lo = rw (e, ← up) (mul-le-mul_right (2 ^ (52 - p)) lo);
          shifted_hi = rw (e, ← up') (mul-lt-mul_of_pos_right hi (pow_pos (52 - p)));
        }
      where
        sum : (p : ℕ) → p ≤ 22 → p + (52 - p) ≡ 52
        sum p l = omega arith

        sum' : (p : ℕ) → p ≤ 22 → suc p + (52 - p) ≡ 53
        sum' p l = omega arith

pub shl_is : (t k : ℕ) → t * 2 ^ k < 2 ^ 53 → (t * 2 ^ k) % 2 ^ 64 ≡ t * 2 ^ k
shl_is t k h = mod-eq_of_lt (omega arith)

pub nan_over : (b : ℕ) → 0x7f80_0000 < b % 0x8000_0000 → nan_bits binary32 b ≡ true
nan_over b h = nan_bits_above binary32 b ∙ lt-ltb 0x7f80_0000 (b % 0x8000_0000) h

pub no_nan : (b : ℕ) → b % 0x8000_0000 ≤ 0x7f80_0000 → nan_bits binary32 b ≡ false
no_nan b h = nan_bits_above binary32 b ∙ le-ltb 0x7f80_0000 (b % 0x8000_0000) h

-- the four ways of a number that is no NaN
module _ (b : ℕ) (lt : b < 2 ^ 32) (h : b % 2 ^ 31 ≤ 0x7f80_0000) where
  pub to_inf : b % 2 ^ 31 / 2 ^ 23 ≡ 255 → b / 2 ^ 31 * 2 ^ 63 + 0x7ff0_0000_0000_0000 ≡ widened b
  unfolding widened
  to_inf e = let z : b % 2 ^ 23 ≡ 0 = omega arith in rw (no_nan b h, wide_inf b lt (no_nan b h) e z) (omega arith)

  pub to_normal : (b % 2 ^ 31 / 2 ^ 23 ≡ 255 → ⊥) → 0 < b % 2 ^ 31 / 2 ^ 23
      → b / 2 ^ 31 * 2 ^ 63 + (b % 2 ^ 31 / 2 ^ 23 + 896) * 2 ^ 52 + b % 2 ^ 23 * 2 ^ 29 ≡ widened b
  unfolding widened
  to_normal n p = let l : b % 2 ^ 31 / 2 ^ 23 < 255 = omega arith in rw (no_nan b h, wide_normal b lt (no_nan b h) p l)

  pub to_zero : b % 2 ^ 31 / 2 ^ 23 ≤ 0 → b % 2 ^ 23 ≡ 0 → b / 2 ^ 31 * 2 ^ 63 ≡ widened b
  unfolding widened
  to_zero e z = let e' : b % 2 ^ 31 / 2 ^ 23 ≡ 0 = omega arith in rw (no_nan b h, wide_zero b lt (no_nan b h) e' z) (omega arith)

  pub to_sub : b % 2 ^ 31 / 2 ^ 23 ≤ 0 → (b % 2 ^ 23 ≡ 0 → ⊥) → b / 2 ^ 31 * 2 ^ 63 + subnormal_of (b % 2 ^ 23) ≡ widened b
  unfolding widened subnormal_of
  to_sub e n =
      let t = top (b % 2 ^ 23) (omega arith) (omega arith) in
      let e' : b % 2 ^ 31 / 2 ^ 23 ≡ 0 = omega arith in
      let z = count_leading_zeros 64 (b % 2 ^ 23) in
      let p-is : 63 - z ≡ t.p = omega arith in
      let k-is : z - 11 ≡ 52 - t.p = omega arith in
      rw (no_nan b h, p-is, k-is, wide_sub b lt (no_nan b h) t.p t.low_p t.lo t.hi e') (omega arith)
