-- The widths of numbers and headers, as the code counts them. Assumes nothing.
use Prim.Native.Nat.{ℕ, zero, suc, ◌+◌, ◌-◌, ◌*◌, ◌^◌, ◌≤◌, ◌<◌}
use mathlib.Core.Path.{◌≡◌, refl, sym, ap, ◌∙◌}
use mathlib.Core.Logic.{⊎_elim}
use native.Mathlib.Omega.{arith}
use native.Mathlib.Nat.{eq-or-lt_of_le}
use borrow.Author.Tests.{ltb-true}
use lib.Dec.{ltb}
use lib.IntN.{ℤ, pos, negsuc}
use lib.ListN.{length, length-append}
use lib.Signed.{mag}
use Rattle.tools.specs.Twos.{signed_of, bits_of}
use Rattle.tools.specs.Vint.{Least, least_from, vint_width, vint_bytes}
use Rattle.tools.proofs.BigEndian.{length-be_bytes}
use Rattle.tools.proofs.Complement.{signed_low, signed_high}
use Rattle.tools.proofs.Least.{least, least_same}
use Rattle.tools.proofs.Signed.{signed_back}
use Rattle.tag_writer.specs.Document.{unsigned_width, integer_width, integer_bytes, id_width, id_bytes, header_bytes}

pub no_less : (m n from : ℕ) → least_from (λ k. ltb m (2 ^ (8 * k - 0))) n from ≡ least_from (λ k. ltb m (2 ^ (8 * k))) n from
no_less m n from = least_same _ _ (λ k. let e : 8 * k - 0 ≡ 8 * k = omega arith in ap (λ (j : ℕ). ltb m (2 ^ j)) e) n from

pub id_length_lem : (x : ℕ) → length (id_bytes x) ≡ id_width x
unfolding id_bytes
id_length_lem x = length-be_bytes (id_width x) x

pub header_length_lem : (x n : ℕ) → length (header_bytes x n) ≡ length (id_bytes x) + vint_width n
unfolding header_bytes
header_length_lem x n =
    length-append (id_bytes x) (vint_bytes (vint_width n) n) ∙ ap (λ (k : ℕ). length (id_bytes x) + k) (length-be_bytes (vint_width n) (2 ^ (7 * vint_width n) + n))

pub mag_low : (b : ℕ) → b < 2 ^ 63 → b ≡ mag (signed_of 64 b)
mag_low b h = ap mag (sym (signed_low 64 b h))

pub mag_high : (b : ℕ) → 2 ^ 63 ≤ b → 2 ^ 64 - 1 - b ≡ mag (signed_of 64 b)
mag_high b h = ap mag (sym (signed_high 64 b h))

integer_width_lem : (z : ℤ) → (z ≡ pos 0 → ⊥) → length (integer_bytes z) ≡ integer_width z
unfolding integer_bytes
integer_width_lem (pos zero) n = absurd (n refl)
integer_width_lem (pos (suc k)) n = length-be_bytes (integer_width (pos (suc k))) (suc k)
integer_width_lem (negsuc k) n = length-be_bytes (integer_width (negsuc k)) (bits_of (8 * integer_width (negsuc k)) (negsuc k))

pub integer_none : (b : ℕ) → b ≡ 0 → 0 ≡ length (integer_bytes (signed_of 64 b))
unfolding integer_bytes
integer_none b e = sym (ap (λ (z : ℤ). length (integer_bytes z)) (ap (signed_of 64) e ∙ signed_low 64 0 (omega arith)))

pub integer_some : (b m w : ℕ) → (b ≡ 0 → ⊥) → b < 2 ^ 64 → m ≡ mag (signed_of 64 b) → w ≡ least_from (λ k. ltb m (2 ^ (8 * k - 1))) 7 1 → w ≡ length (integer_bytes (signed_of 64 b))
integer_some b m w n h em ew = ew ∙ ap (λ (j : ℕ). least_from (λ k. ltb j (2 ^ (8 * k - 1))) 7 1) em ∙ sym (integer_width_lem (signed_of 64 b) other)
  where
    other : signed_of 64 b ≡ pos 0 → ⊥
    other e =
        let back : bits_of 64 (signed_of 64 b) ≡ b = signed_back 64 b (omega arith) h in
        n (sym back ∙ ap (bits_of 64) e)

-- ---- the least widths hold the numbers

pub unsigned_least : (n : ℕ) → Least (λ k. ltb n (2 ^ (8 * k))) 0 8 (unsigned_width n)
unsigned_least n = least (λ k. ltb n (2 ^ (8 * k))) 8 0

pub unsigned_holds : (n : ℕ) → n < 2 ^ 64 → n < 2 ^ (8 * unsigned_width n)
unsigned_holds n h = ⊎_elim (λ e. rw e h) (λ x. ltb-true _ _ ((unsigned_least n).passes x)) (eq-or-lt_of_le (unsigned_least n).hi)

pub integer_least : (z : ℤ) → Least (λ k. ltb (mag z) (2 ^ (8 * k - 1))) 1 8 (integer_width z)
integer_least z = least (λ k. ltb (mag z) (2 ^ (8 * k - 1))) 7 1

pub integer_holds : (z : ℤ) → mag z < 2 ^ 63 → mag z < 2 ^ (8 * integer_width z - 1)
integer_holds z h = ⊎_elim (λ e. rw e h) (λ x. ltb-true _ _ ((integer_least z).passes x)) (eq-or-lt_of_le (integer_least z).hi)

pub integer_short : (z : ℤ) → length (integer_bytes z) ≤ 8
unfolding integer_bytes
integer_short (pos zero) = omega arith
integer_short (pos (suc n)) = rw (length-be_bytes (integer_width (pos (suc n))) (suc n)) (integer_least (pos (suc n))).hi
integer_short (negsuc n) = rw (length-be_bytes (integer_width (negsuc n)) (bits_of (8 * integer_width (negsuc n)) (negsuc n))) (integer_least (negsuc n)).hi
