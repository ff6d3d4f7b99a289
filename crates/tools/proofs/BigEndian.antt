-- Laws of big-endian numbers and their bytes, over the count of bytes. Assumes nothing.
use Prim.Native.Nat.{ℕ, zero, suc, ◌+◌, ◌-◌, ◌*◌, ◌/◌, ◌%◌, ◌^◌, ◌≤◌, ◌<◌}
use mathlib.Core.Path.{◌≡◌, refl, sym, ap, ap₂, ◌∙◌, subst}
use mathlib.Core.List.{List, [], ◌∷◌, ◌++◌}
use native.Mathlib.Omega.{arith}
use native.Mathlib.Nat.{lt_of_lt_of_le, le_of_eq, le_trans, mul-one, add-zero, mod-one, add-mul, mul_assoc, mul-le-mul_right, mod-eq_of_lt, not-suc-le-zero}
use native.Mathlib.Numerals.{add-one}
use lib.Arith.{digits_lt, digits_div, digits_mod}
use lib.ListN.{length, get_or, take, drop, set, replicate}
use lib.Pow.{pow-add, pow_mono, mod-pow-add}
use lib.Seq.{take-suc, take_all}
use Rattle.std.specs.Int.{w64, to_be_bytes}
use Rattle.tools.specs.Bytes.{Octets, be_from, be_number, be_bytes}

-- ---- one byte more

be_from_snoc : (n : ℕ) (bs : List ℕ) (b : ℕ) → be_from n (bs ++ (b ∷ [])) ≡ be_from n bs * 256 + b
unfolding be_from
be_from_snoc n [] b = refl
be_from_snoc n (x ∷ bs) b = be_from_snoc (n * 256 + x) bs b

pub be_more : (s : List ℕ) (i : ℕ) → i < length s → be_number (take (i + 1) s) ≡ be_number (take i s) * 256 + get_or s i 0
be_more s i h = rw (add-one, take-suc s i 0) (be_from_snoc 0 (take i s) (get_or s i 0))

pub push : (i v b : ℕ) → v < 2 ^ (8 * i) → b < 256 → v * 256 + b < 2 ^ (8 * (i + 1))
push i v b h l = subst (λ (x : ℕ). v * 256 + b < x) (sym (pow-add 2 (8 * i) 8) ∙ ap (λ (k : ℕ). 2 ^ k) (omega arith)) (digits_lt h l)

pub in64 : (i : ℕ) {v : ℕ} → v < 2 ^ (8 * i) → i ≤ 8 → v < 2 ^ 64
in64 i h l = let k : 8 * i ≤ 64 = omega arith in lt_of_lt_of_le h (pow_mono k)

-- one byte more, yet 0, of fewer than eight
pub shifted : (i v : ℕ) → v < 2 ^ (8 * i) → i < 8 → v * 256 < 2 ^ 64
shifted i v h l = let k : v * 256 + 0 < 2 ^ 64 = in64 (i + 1) (push i v 0 h (omega arith)) (omega arith) in omega arith

-- ---- the bytes of a number

pub length-be_bytes : (k n : ℕ) → length (be_bytes k n) ≡ k
unfolding be_bytes
length-be_bytes zero n = refl
length-be_bytes (suc k) n = ap suc (length-be_bytes k n)

pub be_bytes_at : (k n i : ℕ) → i < k → get_or (be_bytes k n) i 0 ≡ n / 2 ^ (8 * (k - 1 - i)) % 256
unfolding be_bytes
be_bytes_at zero n i h = absurd (not-suc-le-zero h)
be_bytes_at (suc k) n zero h = ap (λ (x : ℕ). n / 2 ^ (8 * x) % 256) (omega arith)
be_bytes_at (suc k) n (suc i) h = be_bytes_at k n i (omega arith) ∙ ap (λ (x : ℕ). n / 2 ^ (8 * x) % 256) (omega arith)

pub octets_be_bytes : (k n : ℕ) → Octets (be_bytes k n)
unfolding be_bytes
octets_be_bytes zero n i = omega arith
octets_be_bytes (suc k) n zero = omega arith
octets_be_bytes (suc k) n (suc i) = octets_be_bytes k n i

-- a turn of a loop that writes s over the front of d
pub over_more : (s d : List ℕ) (j : ℕ) → j < length s → j < length d → set (take j s ++ drop j d) j (get_or s j 0) ≡ take (j + 1) s ++ drop (j + 1) d
over_more s d j hs hd = rw add-one (go s d j hs hd)
  where
    go : (s d : List ℕ) (j : ℕ) → j < length s → j < length d → set (take j s ++ drop j d) j (get_or s j 0) ≡ take (suc j) s ++ drop (suc j) d
    go [] d j hs hd = absurd (not-suc-le-zero hs)
    go (x ∷ s) [] j hs hd = absurd (not-suc-le-zero hd)
    go (x ∷ s) (y ∷ d) zero hs hd = refl
    go (x ∷ s) (y ∷ d) (suc j) hs hd = ap (λ (l : List ℕ). x ∷ l) (go s d j (omega arith) (omega arith))

-- the lowest bytes of j
low_bytes : (m j n : ℕ) → drop m (be_bytes j n) ≡ be_bytes (j - m) n
unfolding be_bytes
low_bytes zero j n = let e : j - 0 ≡ j = omega arith in rw e
low_bytes (suc m) zero n = let e : 0 - suc m ≡ 0 = omega arith in rw e
low_bytes (suc m) (suc j) n = let e : suc j - suc m ≡ j - m = omega arith in rw e (low_bytes m j n)

eight_bytes : (n : ℕ) → to_be_bytes w64 n ≡ be_bytes 8 n
unfolding be_bytes
eight_bytes n = let e : n / 1 ≡ n = omega arith in rw e

-- the last bytes of the eight that `to_be_bytes` gives are the lowest
pub last_bytes : (k n : ℕ) → k ≤ 8 → take (8 - (8 - k)) (drop (8 - k) (to_be_bytes w64 n)) ≡ be_bytes k n
last_bytes k n h =
    let e : 8 - (8 - k) ≡ k = omega arith in
    let all : length (be_bytes k n) ≤ k = rw length-be_bytes (omega arith) in
    let lowest : drop (8 - k) (to_be_bytes w64 n) ≡ be_bytes k n = ap (drop (8 - k)) (eight_bytes n) ∙ low_bytes (8 - k) 8 n ∙ ap (λ (x : ℕ). be_bytes x n) e in
    rw (e, lowest) (take_all k (be_bytes k n) all)

-- ---- there and back

-- the digits above, and the number of the bytes below
pub be_from_split : (n : ℕ) (bs : List ℕ) → be_from n bs ≡ n * 2 ^ (8 * length bs) + be_number bs
unfolding be_from
be_from_split n [] = sym (add_nothing n)
  where
    add_nothing : (n : ℕ) → n * 1 + 0 ≡ n
    add_nothing n = omega arith
be_from_split n (b ∷ bs) =
    let k = 8 * length bs in
    let e : 8 * suc (length bs) ≡ 8 + k = omega arith in
    let one = be_from_split (n * 256 + b) bs in
    let two = be_from_split (0 * 256 + b) bs in
    rw (e, pow-add 2 8 k, one, two)
    (omega (arith, add-mul (n * 256) b (2 ^ k), add-mul (0 * 256) b (2 ^ k), mul_assoc n 256 (2 ^ k), mul_assoc 0 256 (2 ^ k), nothing (2 ^ k)))
  where
    nothing : (x : ℕ) → 0 * (256 * x) ≡ 0
    nothing x = omega arith

be_from-lt : (n : ℕ) (bs : List ℕ) → Octets bs → be_from n bs < (n + 1) * 2 ^ (8 * length bs)
unfolding be_from
be_from-lt n [] byte = rw mul-one (omega arith)
be_from-lt n (b ∷ bs) byte = lt_of_lt_of_le (be_from-lt (n * 256 + b) bs (λ i. byte (suc i))) (step (byte 0))
  where
    step : b < 256 → (n * 256 + b + 1) * 2 ^ (8 * length bs) ≤ (n + 1) * 2 ^ (8 * suc (length bs))
    step l =
        let k = 8 * length bs in
        let e : (n + 1) * 2 ^ (8 * suc (length bs)) ≡ (n + 1) * 256 * 2 ^ k =
        ap (λ (x : ℕ). (n + 1) * 2 ^ x) (omega arith) ∙ ap (λ (x : ℕ). (n + 1) * x) (pow-add 2 8 k) ∙ sym (mul_assoc (n + 1) 256 (2 ^ k)) in
        le_trans (mul-le-mul_right (2 ^ k) (omega arith)) (le_of_eq (sym e))

pub be_lt : (bs : List ℕ) → Octets bs → be_number bs < 2 ^ (8 * length bs)
be_lt bs byte = let h = be_from-lt 0 bs byte in omega arith

be_round : (n k m : ℕ) → be_from n (be_bytes k m) ≡ n * 2 ^ (8 * k) + m % 2 ^ (8 * k)
unfolding be_from be_bytes
be_round n zero m = sym (ap (λ (x : ℕ). n * 1 + x) (mod-one m) ∙ add-zero (n * 1) ∙ mul-one n)
be_round n (suc k) m =
    let P = 2 ^ (8 * k) in
    let d = m / P % 256 in
    let e : 8 * suc k ≡ 8 + 8 * k = omega arith in
    be_round (n * 256 + d) k m ∙ rw (e, mod-pow-add m 8 (8 * k), pow-add 2 8 (8 * k)) (omega (arith, add-mul (n * 256) d P, mul_assoc n 256 P))

-- the number of the bytes of a number
pub be_bytes_lem : (k m : ℕ) → m < 2 ^ (8 * k) → be_number (be_bytes k m) ≡ m
be_bytes_lem k m h = be_round 0 k m ∙ rw (mod-eq_of_lt h) (omega (arith, zero-times (2 ^ (8 * k))))
  where
    zero-times : (x : ℕ) → 0 * x ≡ 0
    zero-times x = omega arith

bytes_from : (n : ℕ) (bs : List ℕ) → Octets bs → be_bytes (length bs) (be_from n bs) ≡ bs
unfolding be_from be_bytes
bytes_from n [] byte = refl
bytes_from n (b ∷ bs) byte =
    let k = 8 * length bs in
    let m = n * 256 + b in
    let l : be_number bs < 2 ^ k = be_lt bs (λ i. byte (suc i)) in
    let top : be_from m bs / 2 ^ k % 256 ≡ b = rw (be_from_split m bs, digits_div m l, digits_mod n (byte 0)) in
    ap₂ (λ (x : ℕ) (r : List ℕ). x ∷ r) top (bytes_from m bs (λ i. byte (suc i)))

-- the bytes of the number of bytes
pub bytes_be : (bs : List ℕ) → Octets bs → be_bytes (length bs) (be_number bs) ≡ bs
bytes_be bs byte = bytes_from 0 bs byte

pub octets_take : (n : ℕ) (s : List ℕ) → Octets s → Octets (take n s)
octets_take zero s byte i = omega arith
octets_take (suc n) [] byte i = omega arith
octets_take (suc n) (x ∷ s) byte zero = byte 0
octets_take (suc n) (x ∷ s) byte (suc i) = octets_take n s (λ j. byte (suc j)) i

-- octets with octets behind them are octets
pub octets_append : (s t : List ℕ) → Octets s → Octets t → Octets (s ++ t)
octets_append [] t byte more i = more i
octets_append (x ∷ s) t byte more zero = byte 0
octets_append (x ∷ s) t byte more (suc i) = octets_append s t (λ j. byte (suc j)) more i

-- and so with zeros behind them
pub octets_zeros : (s : List ℕ) (k : ℕ) → Octets s → Octets (s ++ replicate k 0)
octets_zeros [] zero byte i = omega arith
octets_zeros [] (suc k) byte zero = omega arith
octets_zeros [] (suc k) byte (suc i) = octets_zeros [] k byte i
octets_zeros (x ∷ s) k byte zero = byte 0
octets_zeros (x ∷ s) k byte (suc i) = octets_zeros s k (λ j. byte (suc j)) i
