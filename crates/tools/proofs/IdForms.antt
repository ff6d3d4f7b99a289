-- `is_id_of`: one law for each answer, by what is asked of a number first, second and so on. Assumes nothing.
use Prim.Native.Nat.{ℕ, ◌-◌, ◌*◌, ◌^◌, ◌≤◌, ◌<◌}
use mathlib.Core.Path.{◌≡◌}
use mathlib.Core.Bool.{false}
use native.Mathlib.Omega.{arith}
use borrow.Author.Tests.{lt-ltb, le-ltb, le-leb, lt-leb, eq-eqb, ne_eqb}
use Rattle.tools.specs.ElementId.{is_id_of, id_value, shortest_form}

-- a number below the marker of L bytes
pub below_marker : (L x : ℕ) → x < 2 ^ (7 * L) → is_id_of L x ≡ false
unfolding is_id_of
below_marker L x h = rw (lt-leb _ _ h)

-- one whose highest bit is above it
pub above_marker : (L x : ℕ) → 2 ^ (7 * L) ≤ x → 2 ^ (7 * L) ≤ id_value L x → is_id_of L x ≡ false
unfolding is_id_of
above_marker L x h a =
    let far : 2 ^ (7 * L) * 2 ≤ x = omega arith in
    rw (le-leb _ _ h, le-ltb _ _ far)

-- data bits all 0
pub all_zeros : (L x : ℕ) → 2 ^ (7 * L) ≤ x → id_value L x < 2 ^ (7 * L) → id_value L x ≡ 0 → is_id_of L x ≡ false
unfolding is_id_of
all_zeros L x h b z =
    let near : x < 2 ^ (7 * L) * 2 = omega arith in
    rw (le-leb _ _ h, lt-ltb _ _ near, eq-eqb _ _ z)

-- data bits all 1
pub all_ones : (L x : ℕ) → 2 ^ (7 * L) ≤ x → id_value L x < 2 ^ (7 * L) → (id_value L x ≡ 0 → ⊥) → id_value L x ≡ 2 ^ (7 * L) - 1 → is_id_of L x ≡ false
unfolding is_id_of
all_ones L x h b z o =
    let near : x < 2 ^ (7 * L) * 2 = omega arith in
    rw (le-leb _ _ h, lt-ltb _ _ near, ne_eqb _ _ z, eq-eqb _ _ o)

-- the others are IDs where their form is the shortest
pub by_form : (L x : ℕ) → 2 ^ (7 * L) ≤ x → id_value L x < 2 ^ (7 * L) → (id_value L x ≡ 0 → ⊥) → (id_value L x ≡ 2 ^ (7 * L) - 1 → ⊥)
    → is_id_of L x ≡ shortest_form L (id_value L x)
unfolding is_id_of
by_form L x h b z o =
    let near : x < 2 ^ (7 * L) * 2 = omega arith in
    rw (le-leb _ _ h, lt-ltb _ _ near, ne_eqb _ _ z, ne_eqb _ _ o)
