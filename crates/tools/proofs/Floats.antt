-- What `widened` keeps: the value of every pattern that is no NaN, and of a NaN its sign and fraction. Assumes nothing.
use Prim.Native.Nat.{ℕ, ◌^◌, ◌<◌}
use mathlib.Core.Path.{◌≡◌}
use mathlib.Core.Bool.{true, false}
use native.Mathlib.Omega.{arith}
use lib.Ieee.{binary32, binary64, nan_bits, of_bits}
use lib.Ieee.Bits.{of_bits-fits, of_bits-to_bits}
use lib.Ieee.Fits.{fits_widens}
use Rattle.tools.specs.Float.{widened, KeptNan}

-- the binary64 pattern denotes the very value that the binary32 pattern denotes: subnormals, infinities and the zeros'
-- signs included
pub same_value : (b : ℕ) → nan_bits binary32 b ≡ false → of_bits binary64 (widened b) ≡ of_bits binary32 b
unfolding widened
same_value b n = rw n (of_bits-to_bits binary64 (of_bits binary32 b) (fits_widens (of_bits binary32 b) (of_bits-fits binary32 b)))

-- a NaN keeps these
pub kept_nan : (b : ℕ) → b < 2 ^ 32 → nan_bits binary32 b ≡ true → KeptNan b (widened b)
unfolding widened
kept_nan b l n = rw n (record { sign = omega arith; exponent = omega arith; quiet = omega arith; fraction = omega arith })
