-- Laws of text that is put piece by piece into lent bytes. Assumes nothing.
use Prim.Native.Nat.{ℕ, suc, ◌+◌, ◌≤◌}
use mathlib.Core.Path.{◌≡◌, refl, ap, ◌∙◌}
use mathlib.Core.List.{List, [], ◌∷◌, ◌++◌}
use native.Mathlib.Omega.{arith}
use lib.ListN.{length, set, length-append}
use lib.Seq.{sets}
use Rattle.numerals.specs.Puts.{Puts}

sets_append : (s t o : List ℕ) (at : ℕ) → sets (sets o at s) (at + length s) t ≡ sets o at (s ++ t)
sets_append [] t o at = ap (λ (k : ℕ). sets o k t) (omega arith)
sets_append (a ∷ s) t o at =
    let e : at + suc (length s) ≡ suc at + length s = omega arith in
    ap (λ (k : ℕ). sets (sets (set o at a) (suc at) s) k t) e ∙ sets_append s t (set o at a) (suc at)

-- nothing put
pub nothing : (o : List ℕ) (at : ℕ) → Puts 0 at o o at []
nothing o at = record { place = omega arith; bytes = refl; few = omega arith }

-- a piece, and then another
pub and_then : {m n at r r' : ℕ} {o o₀ o' s t : List ℕ} → Puts m r o o₀ at s → Puts n r' o' o r t → Puts (m + n) r' o' o₀ at (s ++ t)
and_then {m} {n} {at} {r} {r'} {o} {o₀} {o'} {s} {t} p q =
    let e = length-append s t in
    record {
      place = rw e (omega (arith, p.place, q.place));
      bytes = q.bytes ∙ ap (λ (l : List ℕ). sets l r t) p.bytes ∙ ap (λ (k : ℕ). sets (sets o₀ at s) k t) p.place ∙ sets_append s t o₀ at;
      few = rw e (omega (arith, p.few, q.few));
    }

-- a bound that is greater
pub within : {m n at r : ℕ} {o o₀ s : List ℕ} → m ≤ n → Puts m r o o₀ at s → Puts n r o o₀ at s
within {m} {n} {at} {r} {o} {o₀} {s} h p = let f = p.few in record { place = p.place; bytes = p.bytes; few = omega arith }
