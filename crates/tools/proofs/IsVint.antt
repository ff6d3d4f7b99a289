-- `is_vint`: the numbers whose highest set bit is where a VINT's marker stands. Assumes nothing.
use Prim.Native.Nat.{ℕ, suc, ◌-◌, ◌*◌, ◌/◌, ◌%◌, ◌^◌, ◌≤◌, ◌<◌}
use mathlib.Core.Path.{◌≡◌}
use mathlib.Core.Bool.{true}
use native.Mathlib.Omega.{arith}
use native.Mathlib.Decide.{dec_le}
use native.Mathlib.Nat.{pow-suc}
use borrow.Author.Tests.{eq-eqb, ne_eqb, eqb-true}
use lib.Count.{count_leading_zeros, leading_top, leading_unique}
use lib.Pow.{pow_pos, pow_mono}
use Rattle.tools.specs.Vint.{is_vint, MarkerAt}

-- accepted by the number of leading zeros
pub by_zeros : (v : ℕ) → 0 < v → (63 - count_leading_zeros 64 v) % 7 ≡ 0 → is_vint v ≡ true
unfolding is_vint
by_zeros v p e = rw (ne_eqb _ _ (λ (z : v ≡ 0). omega arith), eq-eqb _ _ e)

-- what is accepted has its highest set bit there
pub accepted : (v : ℕ) → 0 < v → v < 2 ^ 64 → is_vint v ≡ true → MarkerAt v ((63 - count_leading_zeros 64 v) / 7)
unfolding is_vint
accepted v p l e =
    let t = leading_top 64 v p l in
    let d : (63 - count_leading_zeros 64 v) % 7 ≡ 0 = eqb-true _ _ (rw (ne_eqb v 0 (λ (z : v ≡ 0). omega arith)) at e) in
    let q : 7 * ((63 - count_leading_zeros 64 v) / 7) ≡ t.0 = omega (arith, t.1) in
    record { lo = rw q t.2; hi = rw (q, ← pow-suc 2 t.0) t.3 }

-- and what has is accepted
pub accepts : (v k : ℕ) → v < 2 ^ 64 → MarkerAt v k → is_vint v ≡ true
accepts v k l m =
    let p : 0 < v = omega (arith, pow_pos (7 * k), m.lo) in
    let small : 7 * k < 64 = below (dec_le 64 (7 * k)) in
    let z : 63 - 7 * k ≡ count_leading_zeros 64 v =
    leading_unique 64 v (63 - 7 * k) (suc (7 * k)) (omega arith) (rw (pow-suc 2 (7 * k)) m.hi) (omega (arith, pow-suc 2 (7 * k), m.lo)) in
    by_zeros v p (rw (← z) (mults k (omega arith)))
  where
    below : Dec (64 ≤ 7 * k) → 7 * k < 64
    below (yes h) = let b : 2 ^ 64 ≤ 2 ^ (7 * k) = pow_mono h in absurd (omega (arith, m.lo))
    below (no f) = omega arith

    mults : (k : ℕ) → 7 * k ≤ 63 → (63 - (63 - 7 * k)) % 7 ≡ 0
    mults k h = omega arith
