-- Laws of digits and of their number, at the tests that the code makes. Assumes nothing.
use Prim.Native.Nat.{ℕ, zero, suc, ◌+◌, ◌-◌, ◌/◌, ◌%◌, ◌≤◌, ◌<◌}
use mathlib.Core.Path.{◌≡◌, refl, sym, ap, ◌∙◌}
use mathlib.Core.Bool.{true, false, false≢true}
use mathlib.Core.List.{List, [], ◌∷◌, ◌++◌}
use native.Mathlib.Omega.{arith}
use borrow.Author.Tests.{lt-ltb, le-ltb}
use lib.IntN.{ℤ, pos, negsuc, nat_abs}
use lib.Signed.{lt_z}
use Rattle.numerals.specs.Numeral.{glyph, digits, places, decimal, signed_decimal}
use Rattle.numerals.specs.Puts.{Puts}
use Rattle.numerals.proofs.Putting.{and_then, within}

-- ---- how many

pub places_one : (b k n : ℕ) → (k ≡ 0 → ⊥) → n < b → places b k n ≡ 1
unfolding places
places_one b zero n f h = absurd (f refl)
places_one b (suc k) n f h = simp (lt-ltb _ _ h)

pub places_more : (b k n : ℕ) → (k ≡ 0 → ⊥) → b ≤ n → places b k n ≡ places b (k - 1) (n / b) + 1
unfolding places
places_more b zero n f h = absurd (f refl)
places_more b (suc k) n f h = let e : suc k - 1 ≡ k = omega arith in simp (le-ltb _ _ h, e)

-- ---- one digit more

digits_more : (b k n : ℕ) → (k ≡ 0 → ⊥) → digits b (k - 1) (n / b) ++ (glyph (n % b) ∷ []) ≡ digits b k n
unfolding digits
digits_more b zero n f = absurd (f refl)
digits_more b (suc k) n f = let e : suc k - 1 ≡ k = omega arith in rw e

pub digit_more : (b k n : ℕ) {g at r r' : ℕ} {o o₀ o' : List ℕ} → (k ≡ 0 → ⊥)
    → Puts (k - 1) r o o₀ at (digits b (k - 1) (n / b)) → g ≡ glyph (n % b) → Puts 1 r' o' o r (g ∷ []) → Puts k r' o' o₀ at (digits b k n)
digit_more b k n {g} {at} {r} {r'} {o} {o₀} {o'} f p e q =
    let both = and_then p (rw e at q) in
    within (omega arith) (rw (digits_more b k n f) at both)

-- all that there are
pub all_digits : (b most n : ℕ) {k at r : ℕ} {o o₀ : List ℕ} → (k ≡ places b most n) × (k ≤ most)
    → Puts k r o o₀ at (digits b k n) → Puts most r o o₀ at (digits b (places b most n) n)
all_digits b most n {k} {at} {r} {o} {o₀} e p = rw e.0 at (within e.1 p)

-- ---- a sign

negative : (z : ℤ) → lt_z z (pos 0) ≡ true → 45 ∷ decimal (nat_abs z) ≡ signed_decimal z
negative (pos n) t = absurd (false≢true (sym (le-ltb n 0 (omega arith)) ∙ t))
negative (negsuc n) t = ap (λ (k : ℕ). 45 ∷ decimal k) (omega arith)

natural : (z : ℤ) → lt_z z (pos 0) ≡ false → decimal (nat_abs z) ≡ signed_decimal z
natural (pos n) t = refl
natural (negsuc n) t = absurd (false≢true (sym t))

-- a sign, and then the distance
pub put_negative : (z : ℤ) {d at r r' : ℕ} {o o₀ o' : List ℕ} → lt_z z (pos 0) ≡ true → d ≡ nat_abs z
    → Puts 1 r o o₀ at (45 ∷ []) → Puts 20 r' o' o r (decimal d) → Puts 21 r' o' o₀ at (signed_decimal z)
put_negative z {d} {at} {r} {r'} {o} {o₀} {o'} t e p q = rw (negative z t) at (and_then p (rw e at q))

pub put_natural : (z : ℤ) {d at r : ℕ} {o o₀ : List ℕ} → lt_z z (pos 0) ≡ false → d ≡ nat_abs z
    → Puts 20 r o o₀ at (decimal d) → Puts 21 r o o₀ at (signed_decimal z)
put_natural z {d} {at} {r} {o} {o₀} t e p = within (omega arith) (rw (natural z t) at (rw e at p))
