-- A word's eight bytes as the library writes and reads them. Assumes nothing.
use Prim.Native.Nat.{ℕ}
use mathlib.Core.Path.{◌≡◌, refl, ap}
use mathlib.Core.List.{List}
use native.Mathlib.Nat.{div-one}
use native.Mathlib.Omega.{arith}
use lib.ListN.{length, take}
use lib.Seq.{take_all}
use Rattle.std.specs.Int.{w64, to_be_bytes, from_be_bytes}
use Rattle.tools.specs.Bytes.{be_from, be_number, be_bytes}
use Rattle.tools.proofs.BigEndian.{be_more}

pub eight_bytes : (n : ℕ) → to_be_bytes w64 n ≡ be_bytes 8 n
unfolding be_bytes
eight_bytes n = rw div-one refl

-- eight bytes as one number, byte by byte
pub word_of_bytes : (b : List ℕ) → length b ≡ 8 → from_be_bytes w64 b ≡ be_number b
word_of_bytes b h =
    let zeroth : be_number (take 0 b) ≡ 0 = unfold be_from in refl in
    let whole : be_number (take 8 b) ≡ be_number b = ap be_number (take_all 8 b (omega (arith, h))) in
    omega (
      arith,
      zeroth,
      whole,
      be_more b 0 (omega (arith, h)),
      be_more b 1 (omega (arith, h)),
      be_more b 2 (omega (arith, h)),
      be_more b 3 (omega (arith, h)),
      be_more b 4 (omega (arith, h)),
      be_more b 5 (omega (arith, h)),
      be_more b 6 (omega (arith, h)),
      be_more b 7 (omega (arith, h)),
    )
