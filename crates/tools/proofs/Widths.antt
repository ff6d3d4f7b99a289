-- The widths that the writers choose: least, and wide enough. Assumes nothing.
use Prim.Native.Nat.{ℕ, ◌+◌, ◌-◌, ◌*◌, ◌^◌, ◌≤◌, ◌<◌}
use mathlib.Core.Path.{◌≡◌, sym, ◌∙◌}
use mathlib.Core.Logic.{⊎_elim}
use native.Mathlib.Omega.{arith}
use native.Mathlib.Decide.{dec_le}
use native.Mathlib.Nat.{eq-or-lt_of_le}
use borrow.Author.Tests.{lt-ltb, le-ltb, ltb-true}
use lib.Dec.{ltb}
use Rattle.tools.specs.Vint.{width_for, vint_width, Least}
use Rattle.tools.proofs.Least.{least, least_same}

-- document 01's words for `as_vint` and the code's: v < 2 ^ (7 L) - 1 where v + 1 < 2 ^ (7 L)
pub vint_width_lem : (v : ℕ) → vint_width v ≡ width_for 0 (v + 1)
vint_width_lem v = least_same (λ L. ltb v (2 ^ (7 * L) - 1)) (λ L. ltb (v + 1) (2 ^ (7 * L - 0))) same 7 1
  where
    same : (L : ℕ) → ltb v (2 ^ (7 * L) - 1) ≡ ltb (v + 1) (2 ^ (7 * L - 0))
    same L =
        let e : 7 * L - 0 ≡ 7 * L = omega arith in
        rw e (go (dec_le (2 ^ (7 * L) - 1) v))
      where
        go : Dec (2 ^ (7 * L) - 1 ≤ v) → ltb v (2 ^ (7 * L) - 1) ≡ ltb (v + 1) (2 ^ (7 * L))
        go (yes h) = let l : 2 ^ (7 * L) ≤ v + 1 = omega arith in le-ltb _ _ h ∙ sym (le-ltb _ _ l)
        go (no f) =
            let h : v < 2 ^ (7 * L) - 1 = omega arith in
            let l : v + 1 < 2 ^ (7 * L) = omega arith in
            lt-ltb _ _ h ∙ sym (lt-ltb _ _ l)

pub width_least : (less m : ℕ) → Least (λ L. ltb m (2 ^ (7 * L - less))) 1 8 (width_for less m)
width_least less m = least (λ L. ltb m (2 ^ (7 * L - less))) 7 1

-- the width chosen holds what eight bytes hold
pub width_holds : (less m : ℕ) → m < 2 ^ (56 - less) → m < 2 ^ (7 * width_for less m - less)
width_holds less m h =
    let w = width_least less m in
    ⊎_elim (λ e. rw e h) (λ x. ltb-true _ _ (w.passes x)) (eq-or-lt_of_le w.hi)
