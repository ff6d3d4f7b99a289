-- Float payloads: document 01, "Numbers": "4 or 8 bytes, answered as 64 bits; 4 are widened by bits, exactly". IEEE 754
-- is that of `lib.Ieee`.
use Rattle.std.specs.Prelude.{ℕ, ◌+◌, ◌-◌, ◌*◌, ◌/◌, ◌%◌, ◌^◌, cond, ◌≡◌, List, eqb, length, Err, Ok, Result}
use Rattle.std.specs.Int.Count.{count_leading_zeros}
use Rattle.std.specs.Float.{binary32, binary64}
use Rattle.std.specs.Float.Ieee.{nan_bits, to_bits, of_bits}
use Rattle.tools.specs.Bytes.{be_number}
use Rattle.tools.specs.declared.errors.ToolError.TheVariants.{ReadF64Mismatch}
use Rattle.tools.specs.declared.errors.ToolError.{ToolError}

-- a NaN keeps its sign and fraction and gets its quiet bit; of any other pattern, the binary64 pattern of the value
-- that it denotes
unfoldable pub widened : ℕ → ℕ
widened b =
    cond (nan_bits binary32 b) (b / 2 ^ 31 * 2 ^ 63 + 0x7ff8_0000_0000_0000 + b % 2 ^ 22 * 2 ^ 29)
    (to_bits binary64 (of_bits binary32 b))

-- a NaN's sign, its exponent of ones, its quiet bit, and the fraction's lower 22 bits, in binary64's highest places
pub record KeptNan (b w : ℕ) : Type 0 where
  pub sign : w / 2 ^ 63 ≡ b / 2 ^ 31
  pub exponent : w % 2 ^ 63 / 2 ^ 52 ≡ 2047
  pub quiet : w % 2 ^ 52 / 2 ^ 51 ≡ 1
  pub fraction : w % 2 ^ 51 ≡ b % 2 ^ 22 * 2 ^ 29

-- the 64 bits of a float of 4 or 8 bytes; another length is refused
unfoldable pub arr_to_f64 : List ℕ → Result ℕ ToolError
arr_to_f64 s =
    cond (eqb (length s) 4) (Ok (widened (be_number s)))
    (cond (eqb (length s) 8) (Ok (be_number s)) (Err ReadF64Mismatch))

-- ---- what a helper's contract uses

-- the exponent and the fraction, in binary64, of a binary32 subnormal with the fraction t
unfoldable pub subnormal_of : ℕ → ℕ
subnormal_of t = (63 - count_leading_zeros 64 t + 874) * 2 ^ 52 + (t * 2 ^ (count_leading_zeros 64 t - 11) - 2 ^ 52)
