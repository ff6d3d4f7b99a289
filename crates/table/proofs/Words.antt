-- The words three and four at a time: how many there are, and which words stand at a place. Assumes nothing.
use Prim.Native.Nat.{ℕ, zero, suc, ◌+◌, ◌*◌, ◌/◌, ◌<◌}
use mathlib.Core.Path.{◌≡◌, refl}
use mathlib.Core.List.{List, [], ◌∷◌}
use native.Mathlib.Omega.{arith}
use lib.ListN.{length, get_or}
use Rattle.table.specs.Table.{threes, fours}

pub length-threes : {A : Type 0} (f : ℕ → ℕ → ℕ → A) (ws : List ℕ) → length (threes f ws) ≡ length ws / 3
unfolding threes
length-threes f [] = refl
length-threes f (a ∷ []) = refl
length-threes f (a ∷ b ∷ []) = refl
length-threes f (a ∷ b ∷ c ∷ ws) = omega (arith, length-threes f ws)

pub length-fours : {A : Type 0} (f : ℕ → ℕ → ℕ → ℕ → A) (ws : List ℕ) → length (fours f ws) ≡ length ws / 4
unfolding fours
length-fours f [] = refl
length-fours f (a ∷ []) = refl
length-fours f (a ∷ b ∷ []) = refl
length-fours f (a ∷ b ∷ c ∷ []) = refl
length-fours f (a ∷ b ∷ c ∷ d ∷ ws) = omega (arith, length-fours f ws)

pub threes_at : {A : Type 0} (f : ℕ → ℕ → ℕ → A) (ws : List ℕ) (i : ℕ) (z : A) → i < length ws / 3
    → get_or (threes f ws) i z ≡ f (get_or ws (3 * i) 0) (get_or ws (3 * i + 1) 0) (get_or ws (3 * i + 2) 0)
unfolding threes
threes_at f [] i z h = absurd (omega arith)
threes_at f (a ∷ []) i z h = absurd (omega arith)
threes_at f (a ∷ b ∷ []) i z h = absurd (omega arith)
threes_at f (a ∷ b ∷ c ∷ ws) zero z h = refl
threes_at f (a ∷ b ∷ c ∷ ws) (suc i) z h =
    let e : 3 * suc i ≡ suc (suc (suc (3 * i))) = omega arith in
    let e₁ : 3 * suc i + 1 ≡ suc (suc (suc (3 * i + 1))) = omega arith in
    let e₂ : 3 * suc i + 2 ≡ suc (suc (suc (3 * i + 2))) = omega arith in
    rw (e₁, e₂, e) (threes_at f ws i z (omega arith))

pub fours_at : {A : Type 0} (f : ℕ → ℕ → ℕ → ℕ → A) (ws : List ℕ) (i : ℕ) (z : A) → i < length ws / 4
    → get_or (fours f ws) i z ≡ f (get_or ws (4 * i) 0) (get_or ws (4 * i + 1) 0) (get_or ws (4 * i + 2) 0) (get_or ws (4 * i + 3) 0)
unfolding fours
fours_at f [] i z h = absurd (omega arith)
fours_at f (a ∷ []) i z h = absurd (omega arith)
fours_at f (a ∷ b ∷ []) i z h = absurd (omega arith)
fours_at f (a ∷ b ∷ c ∷ []) i z h = absurd (omega arith)
fours_at f (a ∷ b ∷ c ∷ d ∷ ws) zero z h = refl
fours_at f (a ∷ b ∷ c ∷ d ∷ ws) (suc i) z h =
    let e : 4 * suc i ≡ suc (suc (suc (suc (4 * i)))) = omega arith in
    let e₁ : 4 * suc i + 1 ≡ suc (suc (suc (suc (4 * i + 1)))) = omega arith in
    let e₂ : 4 * suc i + 2 ≡ suc (suc (suc (suc (4 * i + 2)))) = omega arith in
    let e₃ : 4 * suc i + 3 ≡ suc (suc (suc (suc (4 * i + 3)))) = omega arith in
    rw (e₁, e₂, e₃, e) (fours_at f ws i z (omega arith))

-- how many there are
pub ruleset word_lengths = (length-threes, length-fours)
