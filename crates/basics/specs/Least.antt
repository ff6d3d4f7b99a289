-- The least of the numbers below a limit that passes a test.
use Rattle.std.specs.Prelude.{ℕ, zero, suc, ◌≤◌, ◌<◌, ◌≡◌, Bool, true, false, cond}

-- i is the least number below n that passes, or n where none does
pub record IsLeastBelow (test : ℕ → Bool) (n i : ℕ) : Type 0 where
  pub within : i ≤ n
  pub before : (j : ℕ) → j < i → test j ≡ false
  pub there : i < n → test i ≡ true

-- this number: how many numbers come before the first that passes
unfoldable pub least_below : (ℕ → Bool) → ℕ → ℕ
least_below test zero = 0
least_below test (suc n) = cond (test 0) 0 (suc (least_below (λ i. test (suc i)) n))
