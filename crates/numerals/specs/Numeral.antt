-- Numbers as text: the digits of a number in a base, most significant first.
use Rattle.std.specs.Prelude.{ℕ, zero, suc, ◌+◌, ◌-◌, ◌*◌, ◌/◌, ◌%◌, cond, List, [], ◌∷◌, ◌++◌, ltb, ℤ, pos, negsuc}

-- the ASCII code of a digit below 16: 0 to 9, then A to F
abbrev pub glyph : ℕ → ℕ
glyph d = cond (ltb d 10) (48 + d) (55 + d)

-- the last k digits of n in base b
unfoldable pub digits : ℕ → ℕ → ℕ → List ℕ
digits b zero n = []
digits b (suc k) n = digits b k (n / b) ++ (glyph (n % b) ∷ [])

-- how many digits n has in base b with no zero in front: one, and one more for each time that it can be divided by b;
-- at most k
unfoldable pub places : ℕ → ℕ → ℕ → ℕ
places b zero n = 0
places b (suc k) n = cond (ltb n b) 1 (places b k (n / b) + 1)

-- a number in hex, no zero in front: every 64-bit number has at most 16 digits
abbrev pub hex : ℕ → List ℕ
hex n = digits 16 (places 16 16 n) n

-- a number in 16 hex digits, zeros in front too
abbrev pub hex16 : ℕ → List ℕ
hex16 n = digits 16 16 n

-- a number in decimal: every 64-bit number has at most 20 digits
abbrev pub decimal : ℕ → List ℕ
decimal n = digits 10 (places 10 20 n) n

-- a signed number in decimal: a `-` before the distance of a negative one from 0 (`negsuc n` is -1 - n)
abbrev pub signed_decimal : ℤ → List ℕ
signed_decimal (pos n) = decimal n
signed_decimal (negsuc n) = 45 ∷ decimal (n + 1)

-- ---- what digits say

-- the digit that an ASCII code is: 0 to 9, A to F
abbrev pub digit_of : ℕ → ℕ
digit_of c = cond (ltb c 65) (c - 48) (c - 55)

-- the number that digits say in base b, after the number n
unfoldable pub read_from : ℕ → ℕ → List ℕ → ℕ
read_from b n [] = n
read_from b n (c ∷ s) = read_from b (n * b + digit_of c) s

-- the number that digits say in base b
abbrev pub read_back : ℕ → List ℕ → ℕ
read_back b s = read_from b 0 s
