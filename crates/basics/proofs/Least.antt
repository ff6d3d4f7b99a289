-- The computed least number is the least one, and the only one. Assumes nothing.
use Prim.Native.Nat.{ℕ, zero, suc, ◌≤◌, ◌<◌}
use mathlib.Core.Path.{◌≡◌, refl, sym, ◌∙◌}
use mathlib.Core.Bool.{Bool, true, false, true≢false}
use native.Mathlib.Decide.{dec_le}
use native.Mathlib.Omega.{arith}
use Rattle.basics.specs.Least.{IsLeastBelow, least_below}
use Rattle.basics.proofs.Bools.{pick, cond_yes, cond_no}

-- one number more, of which the first does not pass
one_more : (test : ℕ → Bool) (n i : ℕ) → test 0 ≡ false → IsLeastBelow (λ j. test (suc j)) n i → IsLeastBelow test (suc n) (suc i)
one_more test n i e k =
    record { within = omega (arith, k.within); before = λ j h. go j h; there = λ h. k.there (omega (arith, h)) }
  where
    go : (j : ℕ) → j < suc i → test j ≡ false
    go zero h = e
    go (suc j) h = k.before j (omega (arith, h))

-- the computed number is the least one
pub least_below_lem : (test : ℕ → Bool) (n : ℕ) → IsLeastBelow test n (least_below test n)
unfolding least_below
least_below_lem test zero = record { within = omega arith; before = λ j h. absurd (omega (arith, h)); there = λ h. absurd (omega (arith, h)) }
least_below_lem test (suc n) =
    pick (IsLeastBelow test (suc n)) (test 0) 0 (suc (least_below (λ i. test (suc i)) n))
    (λ e. record { within = omega arith; before = λ j h. absurd (omega (arith, h)); there = λ h. e })
    (λ e. one_more test n (least_below (λ i. test (suc i)) n) e (least_below_lem (λ i. test (suc i)) n))

-- there is no other
pub least_only : (test : ℕ → Bool) (n i j : ℕ) → IsLeastBelow test n i → IsLeastBelow test n j → i ≡ j
least_only test n i j a b = go (dec_le i j) (dec_le j i)
  where
    -- what is before the one does not pass, and the other does
    apart : (k l : ℕ) → IsLeastBelow test n k → IsLeastBelow test n l → k < l → ⊥
    apart k l f g h = true≢false (sym (f.there (omega (arith, h, g.within))) ∙ g.before k h)

    go : Dec (i ≤ j) → Dec (j ≤ i) → i ≡ j
    go (yes h) (yes k) = omega (arith, h, k)
    go (yes h) (no k) = absurd (apart i j a b (omega (arith, h, k)))
    go (no h) k = absurd (apart j i b a (omega (arith, h)))

-- ---- by the first number

module _ (test : ℕ → Bool) (n : ℕ) where
  -- 0 is the least where it passes
  pub least_first : test 0 ≡ true → least_below test (suc n) ≡ 0
  unfolding least_below
  least_first e = cond_yes _ _ _ e

  -- else it is one more than that of the test from 1 on
  pub least_later : test 0 ≡ false → least_below test (suc n) ≡ suc (least_below (λ i. test (suc i)) n)
  unfolding least_below
  least_later e = cond_no _ _ _ e

-- two tests with the same answers have the same least number
pub least_same : (f g : ℕ → Bool) → ((i : ℕ) → f i ≡ g i) → (n : ℕ) → least_below f n ≡ least_below g n
unfolding least_below
least_same f g h zero = refl
least_same f g h (suc n) = rw (h 0, least_same (λ i. f (suc i)) (λ i. g (suc i)) (λ i. h (suc i)) n)
