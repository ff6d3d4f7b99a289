-- Laws of indentation and of text as it is shown. Assumes nothing.
use Prim.Native.Nat.{ℕ, zero, suc, ◌+◌, ◌-◌, ◌*◌, ◌≤◌, min}
use mathlib.Core.Path.{◌≡◌, refl, sym, ap, subst, ◌∙◌}
use mathlib.Core.List.{List, [], ◌∷◌}
use native.Mathlib.Numerals.{add-one}
use native.Mathlib.Omega.{arith}
use native.Mathlib.Decide.{dec_le}
use lib.ListN.{length, take, drop, get_or, replicate, length-replicate, length-take, length-drop}
use lib.Seq.{take_all}
use Rattle.tag_parse.specs.declared.types.Range.{Range}
use Rattle.numerals.specs.Puts.{Puts}
use Rattle.numerals.proofs.Putting.{and_then, within}
use Rattle.named_list.specs.Words.{indentation, shown_octet, shown_up_to, shown}
use Rattle.named_list.specs.Named.{bytes_of}

-- past its end a list has the default
pub get_d_past : (s : List ℕ) (i : ℕ) → length s ≤ i → get_or s i 0 ≡ 0
get_d_past [] i h = refl
get_d_past (a ∷ s) zero h = absurd (omega arith)
get_d_past (a ∷ s) (suc i) h = get_d_past s i (omega arith)

-- the octet before a place that is not the first
pub get_d_before : (s : List ℕ) (i : ℕ) → (i ≡ 0 → ⊥) → get_or s (i - 1) 0 ≡ get_or (0 ∷ s) i 0
get_d_before s zero h = absurd (h refl)
get_d_before s (suc i) h = ap (λ (k : ℕ). get_or s k 0) (omega arith)

-- the front of equal octets
pub take-replicate : (n m a : ℕ) → n ≤ m → take n (replicate m a) ≡ replicate n a
take-replicate zero m a h = refl
take-replicate (suc n) zero a h = absurd (omega arith)
take-replicate (suc n) (suc m) a h = ap (λ (l : List ℕ). a ∷ l) (take-replicate n m a (omega arith))

-- 64 spaces
abbrev pub spaces : List ℕ
spaces = replicate 64 32

-- the front of them is an indentation
pub spaces_put : {d at r : ℕ} {o o₀ : List ℕ} → d ≤ 32
    → Puts (length (take (2 * d - 0) spaces)) r o o₀ at (take (2 * d - 0) spaces) → Puts 64 r o o₀ at (indentation d)
spaces_put {d} {at} {r} {o} {o₀} h p =
    let less : 2 * d - 0 ≤ 64 = omega arith in
    let same : 2 * d - 0 ≡ 2 * d = omega arith in
    let e : take (2 * d - 0) spaces ≡ indentation d = take-replicate (2 * d - 0) 64 32 less ∙ ap (λ (k : ℕ). replicate k 32) same in
    within (omega (arith, length-replicate {A = ℕ} (2 * d) 32)) (subst (λ (l : List ℕ). Puts (length l) r o o₀ at l) e p)

-- one octet more of a text as it is shown
pub shown_next : (s : List ℕ) (i : ℕ) {at r r' x y z : ℕ} {o o₀ o' : List ℕ} → x ≡ get_or (0 ∷ s) i 0 → y ≡ get_or s i 0 → z ≡ get_or s (i + 1) 0
    → Puts (4 * i) r o o₀ at (shown_up_to s i) → Puts 4 r' o' o r (shown_octet x y z) → Puts (4 * (i + 1)) r' o' o₀ at (shown_up_to s (i + 1))
unfolding shown_up_to
shown_next s i {at} {r} {r'} {x} {y} {z} {o} {o₀} {o'} ex ey ez p q =
    let w = within {n = 4 * (i + 1)} (omega arith) (and_then p (rw (ex, ey, ez) at q)) in
    rw (ap (shown_up_to s) (add-one i)) w

-- the bytes of a range, from the place k up to the place u, as they are shown
pub range_put : (s : List ℕ) (r : Range) (p : ℕ) {k u at n : ℕ} {o o₀ : List ℕ} → k ≡ length s - (p - r.begin) → u ≡ min (k + (r.end - r.begin)) (length s)
    → Puts (4 * length (take (u - k) (drop k s))) n o o₀ at (shown (take (u - k) (drop k s))) → Puts (4 * length s) n o o₀ at (shown (bytes_of r p s))
range_put s r p {k} {u} {at} {n} {o} {o₀} ek eu q =
    let m = r.end - r.begin in
    let part : take (u - k) (drop k s) ≡ take m (drop k s) = go (dec_le (k + m) (length s)) in
    let few : 4 * length (take m (drop k s)) ≤ 4 * length s = omega (arith, length-take m (drop k s), length-drop k s) in
    let q' = subst (λ (l : List ℕ). Puts (4 * length l) n o o₀ at (shown l)) part q in
    subst (λ (j : ℕ). Puts (4 * length s) n o o₀ at (shown (take m (drop j s)))) ek (within few q')
  where
    go : Dec (k + (r.end - r.begin) ≤ length s) → take (u - k) (drop k s) ≡ take (r.end - r.begin) (drop k s)
    go (yes h) = let e : u - k ≡ r.end - r.begin = omega arith in ap (λ (j : ℕ). take j (drop k s)) e
    go (no f) =
        take_all (u - k) (drop k s) (omega (arith, length-drop k s))
        ∙ sym (take_all (r.end - r.begin) (drop k s) (omega (arith, length-drop k s)))
