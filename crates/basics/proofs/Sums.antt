-- A sum that is compared with a bound, as the code does it: by a difference, which does not wrap. Assumes nothing.
use Prim.Native.Nat.{ℕ, ◌+◌, ◌-◌, ◌≤◌, ◌<◌}
use mathlib.Core.Path.{◌≡◌, sym, ◌∙◌}
use native.Mathlib.Decide.{dec_le}
use native.Mathlib.Omega.{arith}
use mathlib.Core.Bool.{not}
use borrow.Author.Tests.{le-leb, lt-leb, le-ltb, lt-ltb}
use lib.Dec.{leb, ltb}

-- two tests agree where each holds if the other does
pub same_test : (a b c d : ℕ) → (a ≤ b → c ≤ d) → (c ≤ d → a ≤ b) → leb a b ≡ leb c d
same_test a b c d to from = go (dec_le a b)
  where
    go : Dec (a ≤ b) → leb a b ≡ leb c d
    go (yes h) = le-leb a b h ∙ sym (le-leb c d (to h))
    go (no f) = let g : d < c = against (dec_le c d) in lt-leb a b (omega arith) ∙ sym (lt-leb c d g)
      where
        against : Dec (c ≤ d) → d < c
        against (yes h) = absurd (f (from h))
        against (no n) = omega arith

-- a test that fails is the other test
pub not_leb : (a b : ℕ) → not (leb a b) ≡ ltb b a
not_leb a b = go (dec_le a b)
  where
    go : Dec (a ≤ b) → not (leb a b) ≡ ltb b a
    go (yes h) = rw (le-leb a b h, le-ltb b a h)
    go (no f) = let h : b < a = omega (arith, f) in rw (lt-leb a b h, lt-ltb b a h)

module _ (a n b : ℕ) (h : a ≤ b) where
  pub sum-within : leb n (b - a) ≡ leb (a + n) b
  sum-within = same_test n (b - a) (a + n) b (λ k. omega arith) (λ k. omega arith)

  pub sum-reaches : leb (b - a) n ≡ leb b (a + n)
  sum-reaches = same_test (b - a) n b (a + n) (λ k. omega arith) (λ k. omega arith)
