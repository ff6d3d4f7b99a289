-- Big-endian numbers and their bytes, over the count of bytes.
use Rattle.std.specs.Prelude.{ℕ, zero, suc, ◌+◌, ◌*◌, ◌/◌, ◌%◌, ◌^◌, ◌<◌, List, [], ◌∷◌, get_or}

-- every element is an octet
abbrev pub Octets : List ℕ → Type 0
Octets bs = (i : ℕ) → get_or bs i 0 < 256

-- the number n followed by the bytes bs, highest first
unfoldable pub be_from : ℕ → List ℕ → ℕ
be_from n [] = n
be_from n (b ∷ bs) = be_from (n * 256 + b) bs

-- the big-endian number of a list of bytes
abbrev pub be_number : List ℕ → ℕ
be_number bs = be_from 0 bs

-- the k lowest bytes of n, highest first
unfoldable pub be_bytes : ℕ → ℕ → List ℕ
be_bytes zero n = []
be_bytes (suc k) n = n / 2 ^ (8 * k) % 256 ∷ be_bytes k n
