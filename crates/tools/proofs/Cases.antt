-- The cases of the number routines' definitions: one law for each answer. Assumes nothing.
use Prim.Native.Nat.{ℕ, ◌-◌, ◌*◌, ◌^◌, ◌≤◌, ◌<◌}
use mathlib.Core.Path.{◌≡◌, sym, ap}
use mathlib.Core.Bool.{true}
use mathlib.Core.List.{List, ◌++◌}
use native.Mathlib.Decide.{dec_le}
use native.Mathlib.Omega.{arith}
use borrow.Author.Tests.{eq-eqb, ne_eqb, lt-ltb, le-ltb, le-leb, lt-leb}
use lib.IntN.{ℤ}
use lib.ListN.{length, get_or, take, drop}
use Rattle.tools.specs.Answers.{Gives}
use Rattle.tools.specs.Vint.{vint_length, vint_value, less_present, missing_of_none, read_vint, vint_needs_more, vint_bytes, vint_width, vint_limit, as_vint, as_vint_with_length}
use Rattle.tools.specs.SignedVint.{signed_width, signed_vint_limit, as_signed_vint, as_signed_vint_with_length}
use Rattle.tools.specs.Integer.{absolute_value}
use Rattle.tools.specs.Twos.{bits_of}
use Rattle.tools.specs.declared.errors.ToolError.TheVariants.{ReadVintOverflow, WriteVintOverflow, WriteSignedVintOverflow, WidthMismatch, OutputTooShort}
use Rattle.std.specs.Prelude.{Err, Ok}
use Rattle.tools.specs.declared.status.Status.TheVariants as status

pub gives : {A : Type 0} {r : A} {o : List ℕ} {p : A × List ℕ} → p ≡ (r, o) → Gives r o p
gives {A} e = record { answer = ap (λ (q : A × List ℕ). q.0) (sym e); bytes = ap (λ (q : A × List ℕ). q.1) (sym e) }

-- ---- read_vint

pub read_none : (s : List ℕ) → length s ≡ 0 → read_vint s ≡ Ok (status.NeedMore missing_of_none)
unfolding read_vint
read_none s h = simp (eq-eqb _ _ h)

module _ (s : List ℕ) (some : length s ≡ 0 → ⊥) where
  pub read_zero : get_or s 0 0 ≡ 0 → read_vint s ≡ Err ReadVintOverflow
  unfolding read_vint
  read_zero h = simp (ne_eqb _ _ some, eq-eqb _ _ h)

  pub read_short : (get_or s 0 0 ≡ 0 → ⊥) → length s < vint_length (get_or s 0 0)
      → read_vint s ≡ Ok (status.NeedMore (less_present (vint_length (get_or s 0 0)) s))
  unfolding read_vint
  read_short n h = simp (ne_eqb _ _ some, ne_eqb _ _ n, lt-ltb _ _ h)

  pub read_whole : (get_or s 0 0 ≡ 0 → ⊥) → vint_length (get_or s 0 0) ≤ length s
      → read_vint s ≡ Ok (status.Complete (vint_value (vint_length (get_or s 0 0)) (take (vint_length (get_or s 0 0)) s), vint_length (get_or s 0 0)))
  unfolding read_vint
  read_whole n h = simp (ne_eqb _ _ some, ne_eqb _ _ n, le-ltb _ _ h)

-- every way in which reading a vint goes, with the facts that hold there
pub data Reading (s : List ℕ) : Type 0 where
  no_byte : length s ≡ 0 → Reading s
  first_zero : (length s ≡ 0 → ⊥) → get_or s 0 0 ≡ 0 → Reading s
  too_few : (length s ≡ 0 → ⊥) → (get_or s 0 0 ≡ 0 → ⊥) → length s < vint_length (get_or s 0 0) → Reading s
  all_there : (length s ≡ 0 → ⊥) → (get_or s 0 0 ≡ 0 → ⊥) → vint_length (get_or s 0 0) ≤ length s → Reading s

pub reading : (s : List ℕ) → Reading s
reading s = none_or (dec_le 1 (length s))
  where
    whole-or : (length s ≡ 0 → ⊥) → (get_or s 0 0 ≡ 0 → ⊥) → Dec (vint_length (get_or s 0 0) ≤ length s) → Reading s
    whole-or n z (yes h) = all_there n z h
    whole-or n z (no f) = too_few n z (omega arith)

    zero_or : (length s ≡ 0 → ⊥) → Dec (1 ≤ get_or s 0 0) → Reading s
    zero_or n (yes h) = whole-or n (λ e. omega arith) (dec_le (vint_length (get_or s 0 0)) (length s))
    zero_or n (no f) = first_zero n (omega arith)

    none_or : Dec (1 ≤ length s) → Reading s
    none_or (yes h) = zero_or (λ e. omega arith) (dec_le 1 (get_or s 0 0))
    none_or (no f) = no_byte (omega arith)

-- where more is asked for
pub none_needs_more : (s : List ℕ) → length s ≡ 0 → vint_needs_more (read_vint s) ≡ true
none_needs_more s h = rw (read_none s h)

pub short_needs_more : (s : List ℕ) → (length s ≡ 0 → ⊥) → (get_or s 0 0 ≡ 0 → ⊥) → length s < vint_length (get_or s 0 0) → vint_needs_more (read_vint s) ≡ true
short_needs_more s some n h = rw (read_short s some n h)

-- ---- as_vint_with_length and as_vint

module _ (v L : ℕ) (out : List ℕ) where
  pub width_none : L ≡ 0 → as_vint_with_length v L out ≡ (Err WidthMismatch, out)
  unfolding as_vint_with_length
  width_none h = simp (eq-eqb _ _ h)

  pub width_over : (L ≡ 0 → ⊥) → 8 < L → as_vint_with_length v L out ≡ (Err WidthMismatch, out)
  unfolding as_vint_with_length
  width_over n h = simp (ne_eqb _ _ n, lt-ltb _ _ h)

  module _ (n : L ≡ 0 → ⊥) (w : L ≤ 8) where
    pub value_over : 2 ^ (7 * L) ≤ v → as_vint_with_length v L out ≡ (Err WriteVintOverflow, out)
    unfolding as_vint_with_length
    value_over h = simp (ne_eqb _ _ n, le-ltb _ _ w, le-leb _ _ h)

    pub out_short : v < 2 ^ (7 * L) → length out < L → as_vint_with_length v L out ≡ (Err OutputTooShort, out)
    unfolding as_vint_with_length
    out_short f h = simp (ne_eqb _ _ n, le-ltb _ _ w, lt-leb _ _ f, lt-ltb _ _ h)

    pub vint_written : v < 2 ^ (7 * L) → L ≤ length out → as_vint_with_length v L out ≡ (Ok L, vint_bytes L v ++ drop L out)
    unfolding as_vint_with_length
    vint_written f h = simp (ne_eqb _ _ n, le-ltb _ _ w, lt-leb _ _ f, le-ltb _ _ h)

pub least_over : (v : ℕ) (out : List ℕ) → vint_limit ≤ v → as_vint v out ≡ (Err WriteVintOverflow, out)
unfolding as_vint
least_over v out h = rw (le-leb _ _ h)

pub least_written : (v : ℕ) (out : List ℕ) → v < vint_limit → as_vint v out ≡ as_vint_with_length v (vint_width v) out
unfolding as_vint
least_written v out h = rw (lt-leb _ _ h)

-- ---- as_signed_vint and as_signed_vint_with_length

pub signed_least_over : (z : ℤ) (out : List ℕ) → signed_vint_limit ≤ absolute_value z → as_signed_vint z out ≡ (Err WriteSignedVintOverflow, out)
unfolding as_signed_vint
signed_least_over z out h = rw (le-leb _ _ h)

pub signed_least_written : (z : ℤ) (out : List ℕ) → absolute_value z < signed_vint_limit
    → as_signed_vint z out ≡ as_vint_with_length (bits_of (7 * signed_width z) z) (signed_width z) out
unfolding as_signed_vint
signed_least_written z out h = rw (lt-leb _ _ h)

module _ (z : ℤ) (L : ℕ) (out : List ℕ) where
  pub signed_width_none : L ≡ 0 → as_signed_vint_with_length z L out ≡ (Err WidthMismatch, out)
  unfolding as_signed_vint_with_length
  signed_width_none h = simp (eq-eqb _ _ h)

  pub signed_width_over : (L ≡ 0 → ⊥) → 8 < L → as_signed_vint_with_length z L out ≡ (Err WidthMismatch, out)
  unfolding as_signed_vint_with_length
  signed_width_over n h = simp (ne_eqb _ _ n, lt-ltb _ _ h)

  module _ (n : L ≡ 0 → ⊥) (w : L ≤ 8) where
    pub signed_over : 2 ^ (7 * L - 1) ≤ absolute_value z → as_signed_vint_with_length z L out ≡ (Err WriteSignedVintOverflow, out)
    unfolding as_signed_vint_with_length
    signed_over h = simp (ne_eqb _ _ n, le-ltb _ _ w, le-leb _ _ h)

    pub signed_written : absolute_value z < 2 ^ (7 * L - 1) → as_signed_vint_with_length z L out ≡ as_vint_with_length (bits_of (7 * L) z) L out
    unfolding as_signed_vint_with_length
    signed_written h = simp (ne_eqb _ _ n, le-ltb _ _ w, lt-leb _ _ h)
