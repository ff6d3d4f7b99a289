-- Signed vints and signed integers: the range of what is read, the round trips, the least width and the refused ends,
-- over the number of bits. Assumes nothing.
use Prim.Native.Nat.{ℕ, ◌+◌, ◌-◌, ◌*◌, ◌^◌, ◌≤◌, ◌<◌}
use mathlib.Core.Path.{◌≡◌, refl, ap, ◌∙◌}
use mathlib.Core.Bool.{true}
use mathlib.Core.List.{List, ◌++◌}
use mathlib.Core.Logic.{◌↔◌}
use native.Mathlib.Omega.{arith}
use native.Mathlib.Decide.{dec_le}
use native.Mathlib.Nat.{lt_of_le_of_lt}
use borrow.Author.Tests.{ltb-false}
use lib.IntN.{ℤ, pos, negsuc}
use lib.ListN.{length, drop}
use lib.Pow.{pow_pos}
use lib.Signed.{mag}
use Rattle.tools.specs.Bytes.{Octets, be_number}
use Rattle.tools.specs.Vint.{IsVint, VintPart, read_vint, vint_needs_more, vint_bytes}
use Rattle.tools.specs.Integer.{absolute_value}
use Rattle.tools.specs.Twos.{signed_of, bits_of}
use Rattle.tools.specs.SignedVint.{taken_signed, read_signed_vint, signed_vint_needs_more, signed_width, signed_vint_limit, as_signed_vint, as_signed_vint_with_length}
use Rattle.tools.specs.declared.errors.ToolError.TheVariants.{WriteSignedVintOverflow}
use Rattle.tools.proofs.BigEndian.{be_lt}
use Rattle.tools.proofs.Cases.{signed_least_over, signed_least_written, signed_over, vint_written}
use Rattle.tools.proofs.Complement.{doubled, signed_low, signed_high, mag_le}
use Rattle.tools.proofs.Rfc8794.{round_trip, vint_needs_more_lem}
use Rattle.tools.proofs.Widths.{width_least, width_holds}
use Rattle.std.specs.Prelude.{Err, Ok, Result}
use Rattle.tools.specs.declared.status.Status.{Status}
use Rattle.tools.specs.declared.errors.ToolError.{ToolError}
use Rattle.tools.specs.declared.status.Status.TheVariants as status

-- ---- two's complement in k bits: -2 ^ (k - 1) to 2 ^ (k - 1) - 1, there and back

pub in_range : (k n : ℕ) → 1 ≤ k → n < 2 ^ k → mag (signed_of k n) < 2 ^ (k - 1)
in_range k n p h = go (dec_le (2 ^ (k - 1)) n)
  where
    go : Dec (2 ^ (k - 1) ≤ n) → mag (signed_of k n) < 2 ^ (k - 1)
    go (yes l) = rw (signed_high k n l) (omega (arith, doubled k p))
    go (no f) = let l : n < 2 ^ (k - 1) = omega arith in rw (signed_low k n l) l

pub bits_lt : (k : ℕ) (z : ℤ) → 1 ≤ k → mag z < 2 ^ (k - 1) → bits_of k z < 2 ^ k
bits_lt k (pos n) p h = omega (arith, doubled k p)
bits_lt k (negsuc n) p h = omega (arith, pow_pos k)

pub bits_back : (k : ℕ) (z : ℤ) → 1 ≤ k → mag z < 2 ^ (k - 1) → signed_of k (bits_of k z) ≡ z
bits_back k (pos n) p h = signed_low k n h
bits_back k (negsuc n) p h =
    let d = doubled k p in
    let e : 2 ^ k - 1 - (2 ^ k - 1 - n) ≡ n = omega arith in
    signed_high k (2 ^ k - 1 - n) (omega arith) ∙ ap negsuc e

pub signed_back : (k n : ℕ) → 1 ≤ k → n < 2 ^ k → bits_of k (signed_of k n) ≡ n
signed_back k n p h = go (dec_le (2 ^ (k - 1)) n)
  where
    go : Dec (2 ^ (k - 1) ≤ n) → bits_of k (signed_of k n) ≡ n
    go (yes l) = rw (signed_high k n l) (omega arith)
    go (no f) = let l : n < 2 ^ (k - 1) = omega arith in rw (signed_low k n l)

-- an integer payload of n bytes reads as -2 ^ (8 n - 1) to 2 ^ (8 n - 1) - 1
pub payload_range : (s : List ℕ) → Octets s → 1 ≤ length s → mag (signed_of (8 * length s) (be_number s)) < 2 ^ (8 * length s - 1)
payload_range s byte p = in_range (8 * length s) (be_number s) (omega arith) (be_lt s byte)

-- ---- signed vints over the width L

-- more is asked for where the vint asks for it
pub signed_needs_more : (s : List ℕ) → signed_vint_needs_more (read_signed_vint s) ≡ vint_needs_more (read_vint s)
unfolding taken_signed
signed_needs_more s = go (read_vint s)
  where
    go : (r : Result (Status (ℕ × ℕ)) ToolError) → signed_vint_needs_more (taken_signed r) ≡ vint_needs_more r
    go (Ok (status.NeedMore missing)) = refl
    go (Err e) = refl
    go (Ok (status.Complete (v, L))) = refl

-- so exactly where less than the octets of a VINT is there
pub signed_vint_needs_more_lem : (s : List ℕ) → Octets s → (signed_vint_needs_more (read_signed_vint s) ≡ true) ↔ VintPart s
signed_vint_needs_more_lem s byte = rw signed_needs_more (vint_needs_more_lem s byte)

-- "Reading gives −2^(7L−1) to 2^(7L−1)−1"
pub vint_range : (L v : ℕ) (octets : List ℕ) → IsVint L v octets → mag (signed_of (7 * L) v) < 2 ^ (7 * L - 1)
vint_range L v octets i = in_range (7 * L) v (omega (arith, i.at_least_1)) i.below

-- what is written is read back
pub signed_round_trip : (L : ℕ) (z : ℤ) (rest : List ℕ) → 1 ≤ L → L ≤ 8 → mag z < 2 ^ (7 * L - 1)
    → read_signed_vint (vint_bytes L (bits_of (7 * L) z) ++ rest) ≡ Ok (status.Complete (z, L))
unfolding taken_signed
signed_round_trip L z rest p l h =
    rw (round_trip L (bits_of (7 * L) z) rest p l (bits_lt (7 * L) z (omega arith) h), bits_back (7 * L) z (omega arith) h)

-- `as_signed_vint` takes the least width whose bits hold the number
pub signed_least : (z : ℤ) (L : ℕ) → 1 ≤ L → L < signed_width z → 2 ^ (7 * L - 1) ≤ mag z
signed_least z L p h = ltb-false _ _ ((width_least 1 (mag z)).none L p h)

-- and writes it, for every number within the limit, which is not included
pub signed_least_writes : (z : ℤ) (out : List ℕ) → absolute_value z < signed_vint_limit → signed_width z ≤ length out
    → as_signed_vint z out ≡ (Ok (signed_width z), vint_bytes (signed_width z) (bits_of (7 * signed_width z) z) ++ drop (signed_width z) out)
signed_least_writes z out h l =
    let w = width_least 1 (mag z) in
    let fits = width_holds 1 (mag z) (lt_of_le_of_lt (mag_le z) h) in
    signed_least_written z out h
    ∙ vint_written (bits_of (7 * signed_width z) z) (signed_width z) out (λ e. omega (arith, w.lo)) w.hi (bits_lt (7 * signed_width z) z (omega (arith, w.lo)) fits) l

pub signed_least_back : (z : ℤ) (rest : List ℕ) → absolute_value z < signed_vint_limit
    → read_signed_vint (vint_bytes (signed_width z) (bits_of (7 * signed_width z) z) ++ rest) ≡ Ok (status.Complete (z, signed_width z))
signed_least_back z rest h =
    let w = width_least 1 (mag z) in
    signed_round_trip (signed_width z) z rest w.lo w.hi (width_holds 1 (mag z) (lt_of_le_of_lt (mag_le z) h))

-- ---- the refused ends

pub refused_low : (n : ℕ) (out : List ℕ) → signed_vint_limit ≤ n + 1 → as_signed_vint (negsuc n) out ≡ (Err WriteSignedVintOverflow, out)
refused_low n out h = signed_least_over (negsuc n) out (omega arith)

pub refused_high : (n : ℕ) (out : List ℕ) → signed_vint_limit ≤ n → as_signed_vint (pos n) out ≡ (Err WriteSignedVintOverflow, out)
refused_high n out h = signed_least_over (pos n) out h

-- with a width, -2 ^ (7 L - 1) is refused, though its bits would hold it
pub refused_end : (L n : ℕ) (out : List ℕ) → 1 ≤ L → L ≤ 8 → n + 1 ≡ 2 ^ (7 * L - 1)
    → as_signed_vint_with_length (negsuc n) L out ≡ (Err WriteSignedVintOverflow, out)
refused_end L n out p l e = signed_over (negsuc n) L out (λ x. omega arith) l (omega arith)
