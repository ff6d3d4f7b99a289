-- Laws of two's complement, and of an i64's sign and magnitude as the code computes them. Assumes nothing.
use Prim.Native.Nat.{ℕ, suc, ◌+◌, ◌-◌, ◌*◌, ◌^◌, ◌≤◌, ◌<◌, zero-le}
use mathlib.Core.Path.{◌≡◌, refl, sym, ap, ◌∙◌, subst}
use mathlib.Core.Bool.{Bool, true, false, not}
use native.Mathlib.Omega.{arith}
use native.Mathlib.Nat.{lt_of_lt_of_le, pow-suc}
use borrow.Author.Tests.{le-ltb, lt-ltb}
use lib.Dec.{T}
use lib.IntN.{ℤ, pos, negsuc, nat_abs}
use lib.Pow.{pow_mono}
use lib.Signed.{mag, lt_z, non_neg}
use mir.Syntax.{w64}
use mir.Val.{to_z, of_z, SFits}
use mir.ValLaws.{to_z_pos, to_z-of_z}
use Rattle.tools.specs.Twos.{signed_of, bits_of}

-- ---- the sign

pub by_sign : (z : ℤ) → lt_z z (pos 0) ≡ not (non_neg z)
by_sign (pos n) = le-ltb n 0 zero-le
by_sign (negsuc n) = refl

no_way : true ≡ false → ⊥
no_way e = subst T e tt

-- a negative number's bits, turned over
pub turned : (z : ℤ) → SFits w64 z → lt_z (to_z w64 (of_z w64 z)) (pos 0) ≡ true → to_z w64 ((2 ^ 64 - 1) - of_z w64 z) ≡ pos (mag z)
turned z f l = go z f (sym (by_sign z) ∙ (rw (to_z-of_z w64 z f) at l))
  where
    go : (z : ℤ) → SFits w64 z → not (non_neg z) ≡ true → to_z w64 ((2 ^ 64 - 1) - of_z w64 z) ≡ pos (mag z)
    go (pos n) f t = absurd (no_way (sym t))
    go (negsuc n) f t =
        let h : n < 2 ^ 63 = f.sfits in
        let e : (2 ^ 64 - 1) - (2 ^ 64 - suc n) ≡ n = omega arith in
        ap (to_z w64) e ∙ to_z_pos w64 n h

pub upright : (z : ℤ) → SFits w64 z → lt_z (to_z w64 (of_z w64 z)) (pos 0) ≡ false → to_z w64 (of_z w64 z) ≡ pos (mag z)
upright z f l = to_z-of_z w64 z f ∙ go z (sym (by_sign z) ∙ (rw (to_z-of_z w64 z f) at l))
  where
    go : (z : ℤ) → not (non_neg z) ≡ false → z ≡ pos (mag z)
    go (pos n) t = refl
    go (negsuc n) t = absurd (no_way t)

-- what a callee says of a number's bits, said of the number
pub mag_said : {z : ℤ} {m : ℕ} → SFits w64 z → m ≡ mag (to_z w64 (of_z w64 z)) → m ≡ mag z
mag_said {z} f e = rw (to_z-of_z w64 z f) at e

pub sign_said : {z : ℤ} {b : Bool} → SFits w64 z → b ≡ not (non_neg (to_z w64 (of_z w64 z))) → b ≡ not (non_neg z)
sign_said {z} f e = rw (to_z-of_z w64 z f) at e

pub abs_neg : (z : ℤ) → not (non_neg z) ≡ true → nat_abs z ≡ mag z + 1
abs_neg (pos n) t = absurd (no_way (sym t))
abs_neg (negsuc n) t = omega arith

pub abs_pos : (z : ℤ) → not (non_neg z) ≡ false → nat_abs z ≡ mag z
abs_pos (pos n) t = refl
abs_pos (negsuc n) t = absurd (no_way t)

pub bits_neg : (k : ℕ) (z : ℤ) → not (non_neg z) ≡ true → bits_of k z ≡ 2 ^ k - 1 - mag z
bits_neg k (pos n) t = absurd (no_way (sym t))
bits_neg k (negsuc n) t = refl

pub bits_pos : (k : ℕ) (z : ℤ) → not (non_neg z) ≡ false → bits_of k z ≡ mag z
bits_pos k (pos n) t = refl
bits_pos k (negsuc n) t = absurd (no_way t)

pub mag_le : (z : ℤ) → mag z ≤ nat_abs z
mag_le (pos n) = omega arith
mag_le (negsuc n) = omega arith

pub mag_fits : (z : ℤ) (k : ℕ) → mag z < 2 ^ (k - 1) → mag z < 2 ^ k
mag_fits z k h = let l : k - 1 ≤ k = omega arith in lt_of_lt_of_le h (pow_mono l)

-- ---- the halves

pub doubled : (k : ℕ) → 1 ≤ k → 2 ^ k ≡ 2 ^ (k - 1) * 2
doubled k h = ap (λ (x : ℕ). 2 ^ x) (omega arith) ∙ pow-suc 2 (k - 1)

pub half_le : (k : ℕ) → k ≤ 64 → 2 ^ (k - 1) ≤ 2 ^ 63
half_le k h = let l : k - 1 ≤ 63 = omega arith in pow_mono l

pub signed_low : (k n : ℕ) → n < 2 ^ (k - 1) → signed_of k n ≡ pos n
unfolding signed_of
signed_low k n h = simp (lt-ltb _ _ h)

pub signed_high : (k n : ℕ) → 2 ^ (k - 1) ≤ n → signed_of k n ≡ negsuc (2 ^ k - 1 - n)
unfolding signed_of
signed_high k n h = simp (le-ltb _ _ h)
