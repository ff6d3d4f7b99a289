-- What the digits say: read back, the digits of a number are that number, and it has no zero in front but in 0 itself.
-- So the text of a number says the number, in as few digits as can be. Assumes nothing.
use Prim.Native.Nat.{ℕ, zero, suc, ◌+◌, ◌-◌, ◌*◌, ◌/◌, ◌%◌, ◌^◌, ◌≤◌, ◌<◌}
use mathlib.Core.Path.{◌≡◌, refl, ap, ◌∙◌}
use mathlib.Core.List.{List, [], ◌∷◌, ◌++◌}
use native.Mathlib.Omega.{arith}
use native.Mathlib.Decide.{dec_le}
use native.Mathlib.Nat.{div-add-mod', div-lt_iff_lt-mul, mod-lt, pow-zero, pow-suc, one-mul, mul-le-mul_right, le_trans, lt_irrefl, not-suc-le-zero}
use native.Mathlib.Numerals.{add-one}
use borrow.Author.Tests.{lt-ltb, le-ltb}
use lib.ListN.{length, length-append}
use Rattle.numerals.specs.Numeral.{glyph, digits, places, hex, hex16, decimal, digit_of, read_from, read_back}

read_snoc : (b n : ℕ) (s : List ℕ) (c : ℕ) → read_from b n (s ++ (c ∷ [])) ≡ read_from b n s * b + digit_of c
unfolding read_from
read_snoc b n [] c = refl
read_snoc b n (x ∷ s) c = read_snoc b (n * b + digit_of x) s c

digit_back : (d : ℕ) → d < 16 → digit_of (glyph d) ≡ d
digit_back d h = go (dec_le 10 d)
  where
    go : Dec (10 ≤ d) → digit_of (glyph d) ≡ d
    go (yes l) =
        let big : 65 ≤ 55 + d = omega arith in
        simp (le-ltb d 10 l, le-ltb (55 + d) 65 big) (omega arith)
    go (no f) =
        let l : d < 10 = omega arith in
        let low : 48 + d < 65 = omega arith in
        simp (lt-ltb d 10 l, lt-ltb (48 + d) 65 low) (omega arith)

-- k digits say every number below b ^ k
pub digits_back : (b k n : ℕ) → 1 < b → b ≤ 16 → n < b ^ k → read_back b (digits b k n) ≡ n
unfolding digits read_from
digits_back b zero n two most h = let e = pow-zero b in omega arith
digits_back b (suc k) n two most h =
    let pos : 0 < b = omega arith in
    let less : n / b < b ^ k = (div-lt_iff_lt-mul pos).1 (rw (pow-suc b k) at h) in
    let rest = digits_back b k (n / b) two most less in
    let low : n % b < 16 = omega (arith, mod-lt n pos) in
    read_snoc b 0 (digits b k (n / b)) (glyph (n % b)) ∙ rw (rest, digit_back (n % b) low) (div-add-mod' n b)

one_power : (b : ℕ) → b ^ 1 ≡ b
one_power b = pow-suc b 0 ∙ ap (λ (x : ℕ). x * b) (pow-zero b) ∙ one-mul b

-- as many digits as `places` says hold the number
pub places_hold : (b most n : ℕ) → 1 < b → n < b ^ most → n < b ^ places b most n
unfolding places
places_hold b zero n two h = h
places_hold b (suc most) n two h = go (dec_le b n) (places_hold b most (n / b) two)
  where
    pos : 0 < b
    pos = omega arith

    go : Dec (b ≤ n) → (n / b < b ^ most → n / b < b ^ places b most (n / b)) → n < b ^ places b (suc most) n
    go (yes l) rest =
        let less : n / b < b ^ most = (div-lt_iff_lt-mul pos).1 (rw (pow-suc b most) at h) in
        let whole : n < b ^ suc (places b most (n / b)) = rw (pow-suc b (places b most (n / b))) ((div-lt_iff_lt-mul pos).0 (rest less)) in
        rw (le-ltb n b l, add-one) whole
    go (no f) rest =
        let l : n < b = omega arith in
        rw (lt-ltb n b l, one_power b) l

-- and no fewer do
pub places_least : (b most n : ℕ) → 1 < b → 1 < places b most n → b ^ (places b most n - 1) ≤ n
unfolding places
places_least b zero n two h = absurd (not-suc-le-zero (le_trans h (omega arith)))
places_least b (suc most) n two h = go (dec_le b n) (places_least b most (n / b) two)
  where
    pos : 0 < b
    pos = omega arith

    go : Dec (b ≤ n) → (1 < places b most (n / b) → b ^ (places b most (n / b) - 1) ≤ n / b) → b ^ (places b (suc most) n - 1) ≤ n
    go (yes l) rest = rw (le-ltb n b l) (few (places b most (n / b)) rest)
      where
        few : (p : ℕ) → (1 < p → b ^ (p - 1) ≤ n / b) → b ^ (p + 1 - 1) ≤ n
        few zero up = let e = pow-zero b in omega arith
        few (suc zero) up = rw (one_power b) l
        few (suc (suc k)) up =
            let e : suc (suc k) + 1 - 1 ≡ suc (suc k) = omega arith in
            let less : suc (suc k) - 1 ≡ suc k = omega arith in
            let m : b ^ suc k ≤ n / b = rw less at (up (omega arith)) in
            rw (e, pow-suc b (suc k)) (le_trans (mul-le-mul_right b m) (omega (arith, div-add-mod' n b)))
    go (no f) rest =
        let l : n < b = omega arith in
        let none : 1 < 1 = rw (lt-ltb n b l) at h in
        absurd (lt_irrefl 1 none)

-- ---- the three kinds of number

pub decimal_back : (n : ℕ) → n < 2 ^ 64 → read_back 10 (decimal n) ≡ n
decimal_back n h =
    let fits : n < 10 ^ 20 = omega arith in
    digits_back 10 (places 10 20 n) n (omega arith) (omega arith) (places_hold 10 20 n (omega arith) fits)

pub hex_back : (n : ℕ) → n < 2 ^ 64 → read_back 16 (hex n) ≡ n
hex_back n h =
    let fits : n < 16 ^ 16 = omega arith in
    digits_back 16 (places 16 16 n) n (omega arith) (omega arith) (places_hold 16 16 n (omega arith) fits)

pub hex16_back : (n : ℕ) → n < 2 ^ 64 → read_back 16 (hex16 n) ≡ n
hex16_back n h =
    let fits : n < 16 ^ 16 = omega arith in
    digits_back 16 16 n (omega arith) (omega arith) fits

pub length_digits : (b k n : ℕ) → length (digits b k n) ≡ k
unfolding digits
length_digits b zero n = refl
length_digits b (suc k) n = length-append (digits b k (n / b)) (glyph (n % b) ∷ []) ∙ rw (length_digits b k (n / b)) (add-one k)
