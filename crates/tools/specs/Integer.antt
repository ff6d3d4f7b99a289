-- Integer payloads: document 01, "Numbers": "big-endian, 0 to 8 bytes, empty is 0"; RFC 8794, sections 7.1 and 7.2.
use Rattle.std.specs.Prelude.{ℕ, ◌*◌, cond, List, ◌++◌, ltb, eqb, ℤ, pos, nat_abs, length, drop, Err, Ok, Result}
use Rattle.tools.specs.Bytes.{be_number, be_bytes}
use Rattle.tools.specs.Twos.{signed_of, bits_of}
use Rattle.tools.specs.declared.errors.ToolError.TheVariants.{OutputTooShort, ReadU64Overflow, ReadI64Overflow}
use Rattle.tools.specs.declared.errors.ToolError.{ToolError}

-- |z|: z itself of a natural number, and n + 1 of -1 - n
abbrev pub absolute_value : ℤ → ℕ
absolute_value z = nat_abs z

-- bytes taken as two's complement in the 8 bits of each; no byte is 0
unfoldable pub integer_of : List ℕ → ℤ
integer_of s = cond (eqb (length s) 0) (pos 0) (signed_of (8 * length s) (be_number s))

-- a number of up to 8 bytes, refused where they are more
unfoldable pub arr_to_u64 : List ℕ → Result ℕ ToolError
arr_to_u64 s = cond (ltb 8 (length s)) (Err ReadU64Overflow) (Ok (be_number s))

-- the same taken as two's complement
unfoldable pub arr_to_i64 : List ℕ → Result ℤ ToolError
arr_to_i64 s = cond (ltb 8 (length s)) (Err ReadI64Overflow) (Ok (integer_of s))

-- the eight bytes of a number at the front of the lent ones
unfoldable pub u64_to_arr : ℕ → List ℕ → Result ℕ ToolError × List ℕ
u64_to_arr v out =
    cond (ltb (length out) 8) (Err OutputTooShort, out) (Ok 8, be_bytes 8 v ++ drop 8 out)

-- the same of the 64 bits of a signed number
abbrev pub i64_to_arr : ℤ → List ℕ → Result ℕ ToolError × List ℕ
i64_to_arr z out = u64_to_arr (bits_of 64 z) out
