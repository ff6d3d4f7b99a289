-- `fits` over the length of the list and over one octet, and `following` turn by turn. Assumes nothing.
use Prim.Native.Nat.{ℕ, zero, suc, ◌-◌, ◌≤◌, ◌<◌}
use mathlib.Core.Path.{◌≡◌, refl, ap}
use mathlib.Core.Bool.{true, false, ◌&&◌, and-false, false≢true, and-eq-true_iff}
use mathlib.Core.List.{List, [], ◌∷◌}
use native.Mathlib.Omega.{arith}
use borrow.Author.Tests.{le-leb, lt-leb, leb-true}
use lib.Dec.{leb}
use lib.ListN.{length, get_or, take, drop}
use Rattle.std.specs.List.{list_all}
use Rattle.utf8.specs.Rfc3629.{Range, within, fits, tail}
use Rattle.utf8.specs.Helpers.{following}

-- ---- one range

pub inside : (r : Range) (b : ℕ) → r.0 ≤ b → b ≤ r.1 → within r b ≡ true
inside r b l h = simp (le-leb _ _ l, le-leb _ _ h)

pub below : (r : Range) (b : ℕ) → b < r.0 → within r b ≡ false
below r b l = rw (lt-leb _ _ l)

pub above : (r : Range) (b : ℕ) → r.1 < b → within r b ≡ false
above r b h = rw (lt-leb _ _ h) (and-false (leb r.0 b))

pub bounds : (r : Range) (b : ℕ) → within r b ≡ true → (r.0 ≤ b) × (b ≤ r.1)
bounds r b e =
    let t = (and-eq-true_iff (leb r.0 b) (leb b r.1)).0 e in
    (leb-true _ _ t.0, leb-true _ _ t.1)

-- ---- a list of ranges

pub short : (rs : List Range) (s : List ℕ) → length s < length rs → fits rs s ≡ false
unfolding fits
short [] s h = absurd (omega arith)
short (r ∷ rs) [] h = refl
short (r ∷ rs) (b ∷ s) h = rw (short rs s (omega arith)) (and-false (within r b))

pub fits_within : (rs : List Range) (s : List ℕ) → fits rs s ≡ true → length rs ≤ length s
unfolding fits
fits_within [] s e = omega arith
fits_within (r ∷ rs) [] e = absurd (false≢true e)
fits_within (r ∷ rs) (b ∷ s) e =
    let h = fits_within rs s ((and-eq-true_iff (within r b) (fits rs s)).0 e).1 in
    omega arith

pub length_following : (n : ℕ) (r : Range) → length (following n r) ≡ n
unfolding following
length_following zero r = refl
length_following (suc n) r = ap suc (length_following n tail)

-- octets of UTF8-tail alone
pub all_tails : (n : ℕ) (s : List ℕ) → n ≤ length s → fits (following n tail) s ≡ list_all (within tail) (take n s)
unfolding fits following
all_tails zero s h = refl
all_tails (suc n) [] h = absurd (omega arith)
all_tails (suc n) (b ∷ s) h = rw (all_tails n s (omega arith))

-- n octets that are to follow a first one: the next from low to high, the others of UTF8-tail
next_and_tails : (n low high : ℕ) (s : List ℕ) → 0 < n → n ≤ length s
    → fits (following n (low, high)) s ≡ (within (low, high) (get_or s 0 0) && list_all (within tail) (take (n - 1) (drop 1 s)))
unfolding fits following
next_and_tails zero low high s some h = absurd (omega arith)
next_and_tails (suc n) low high [] some h = absurd (omega arith)
next_and_tails (suc n) low high (b ∷ s) some h = let e : suc n - 1 ≡ n = omega arith in rw (e, all_tails n s (omega arith))

module _ (n low high : ℕ) (s : List ℕ) where
  pub too_short : length s < n → fits (following n (low, high)) s ≡ false
  too_short h = short (following n (low, high)) s (omega (arith, length_following n (low, high)))

  pub next_below : 0 < n → n ≤ length s → get_or s 0 0 < low → fits (following n (low, high)) s ≡ false
  next_below some h l = rw (next_and_tails n low high s some h, below (low, high) (get_or s 0 0) l)

  pub next_above : 0 < n → n ≤ length s → high < get_or s 0 0 → fits (following n (low, high)) s ≡ false
  next_above some h u = rw (next_and_tails n low high s some h, above (low, high) (get_or s 0 0) u)

  pub next_inside : 0 < n → n ≤ length s → low ≤ get_or s 0 0 → get_or s 0 0 ≤ high
      → fits (following n (low, high)) s ≡ list_all (within tail) (take (n - 1) (drop 1 s))
  next_inside some h l u = rw (next_and_tails n low high s some h, inside (low, high) (get_or s 0 0) l u)
