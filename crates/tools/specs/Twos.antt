-- Two's complement in any number of bits.
use Rattle.std.specs.Prelude.{ℕ, ◌-◌, ◌^◌, cond, ltb, ℤ, pos, negsuc}

-- the number that k bits stand for, k not 0: n itself below 2 ^ (k - 1), else n - 2 ^ k (`negsuc m` is -1 - m)
unfoldable pub signed_of : ℕ → ℕ → ℤ
signed_of k n = cond (ltb n (2 ^ (k - 1))) (pos n) (negsuc (2 ^ k - 1 - n))

-- the k bits that stand for a number
abbrev pub bits_of : ℕ → ℤ → ℕ
bits_of k (pos n) = n
bits_of k (negsuc n) = 2 ^ k - 1 - n
