-- `least_from`: its turns, and that it is the least. Assumes nothing.
use Prim.Native.Nat.{ℕ, zero, suc, ◌+◌, ◌-◌, ◌<◌}
use mathlib.Core.Path.{◌≡◌, refl}
use mathlib.Core.Bool.{Bool, true, false}
use mathlib.Core.Logic.{⊎_elim}
use native.Mathlib.Omega.{arith}
use native.Mathlib.Nat.{eq-or-lt_of_le}
use Rattle.tools.specs.Vint.{least_from, Least}

pub least_here : (test : ℕ → Bool) (n L : ℕ) → 0 < n → test L ≡ true → least_from test n L ≡ L
unfolding least_from
least_here test zero L h e = absurd (omega arith)
least_here test (suc n) L h e = rw e

pub least_next : (test : ℕ → Bool) (n L : ℕ) → 0 < n → test L ≡ false → least_from test n L ≡ least_from test (n - 1) (L + 1)
unfolding least_from
least_next test zero L h e = absurd (omega arith)
least_next test (suc n) L h e = let o : suc n - 1 ≡ n = omega arith in rw (e, o)

pub least : (test : ℕ → Bool) (n L : ℕ) → Least test L (L + n) (least_from test n L)
unfolding least_from
least test zero L = record { lo = omega arith; hi = omega arith; passes = λ h. absurd (omega arith); none = λ k a b. absurd (omega arith) }
least test (suc n) L = go (test L) refl (least test n (L + 1))
  where
    next : {w : ℕ} → Least test (L + 1) (L + 1 + n) w → test L ≡ false → Least test L (L + suc n) w
    next {w} i e = record {
      lo = omega arith;
      hi = omega arith;
      passes = λ x. i.passes (omega arith);
      none = λ k a b. ⊎_elim (λ s. rw (← s) e) (λ (l : L < k). i.none k (omega arith) b) (eq-or-lt_of_le a);
    }

    go : (t : Bool) → test L ≡ t → Least test (L + 1) (L + 1 + n) (least_from test n (L + 1)) → Least test L (L + suc n) (least_from test (suc n) L)
    go true e i = rw e (record { lo = omega arith; hi = omega arith; passes = λ x. e; none = λ k a b. absurd (omega arith) })
    go false e i = rw e (next i e)

pub least_same : (a b : ℕ → Bool) → ((k : ℕ) → a k ≡ b k) → (n L : ℕ) → least_from a n L ≡ least_from b n L
unfolding least_from
least_same a b same zero L = refl
least_same a b same (suc n) L = rw (same L, least_same a b same n (L + 1))
