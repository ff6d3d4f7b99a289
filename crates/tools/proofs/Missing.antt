-- Document 02, CR 1: the number that a vint's need-more has is the least number of further bytes with which the answer
-- can be another. Assumes nothing.
use Prim.Native.Nat.{ℕ, zero, suc, ◌+◌, ◌≤◌, ◌<◌}
use mathlib.Core.List.{List, [], ◌∷◌, ◌++◌, append-nil}
use mathlib.Core.Path.{◌≡◌, refl, sym, ap, ◌∙◌}
use native.Mathlib.Decide.{dec_le}
use native.Mathlib.Omega.{arith}
use borrow.Author.Tests.{lt-ltb}
use lib.Count.{count_leading_zeros, leading_le}
use lib.Dec.{ltb}
use lib.ListN.{length, get_or, replicate, length-append, length-replicate, get_or-append}
use lib.Seq.{take_all}
use Rattle.tools.specs.Bytes.{Octets}
use Rattle.tools.specs.Missing.{FewerStillMissing, TellsMissing}
use Rattle.tools.specs.SignedVint.{taken_signed, read_signed_vint, signed_vint_missing}
use Rattle.tools.specs.Vint.{vint_length, less_present, missing_of_none, read_vint, vint_needs_more, vint_missing}
use Rattle.tools.proofs.BigEndian.{octets_zeros}
use Rattle.tools.proofs.Marker.{length-le_8}
use Rattle.tools.proofs.Cases.{Reading, no_byte, first_zero, too_few, all_there, reading, read_none, read_zero, read_short, read_whole}
use Rattle.std.specs.Prelude.{Err, Ok, Result}
use Rattle.tools.specs.declared.status.Status.{Status}
use Rattle.tools.specs.declared.errors.ToolError.{ToolError}
use Rattle.tools.specs.declared.status.Status.TheVariants as status

-- ---- the number by the cases of reading

none_missing : (s : List ℕ) → length s ≡ 0 → vint_missing (read_vint s) ≡ missing_of_none
none_missing s h = ap vint_missing (read_none s h)

zero_missing : (s : List ℕ) → (length s ≡ 0 → ⊥) → get_or s 0 0 ≡ 0 → vint_missing (read_vint s) ≡ 0
zero_missing s some h = ap vint_missing (read_zero s some h)

short_missing : (s : List ℕ) → (length s ≡ 0 → ⊥) → (get_or s 0 0 ≡ 0 → ⊥) → length s < vint_length (get_or s 0 0)
    → vint_missing (read_vint s) ≡ less_present (vint_length (get_or s 0 0)) s
short_missing s some n h = ap vint_missing (read_short s some n h)

whole_missing : (s : List ℕ) → (length s ≡ 0 → ⊥) → (get_or s 0 0 ≡ 0 → ⊥) → vint_length (get_or s 0 0) ≤ length s → vint_missing (read_vint s) ≡ 0
whole_missing s some n h = ap vint_missing (read_whole s some n h)

-- more is asked for exactly where a byte is missing
pub vint_asks : (s : List ℕ) → vint_needs_more (read_vint s) ≡ ltb 0 (vint_missing (read_vint s))
vint_asks s = go (reading s)
  where
    go : Reading s → vint_needs_more (read_vint s) ≡ ltb 0 (vint_missing (read_vint s))
    go (no_byte n) = rw (read_none s n)
    go (first_zero n z) = rw (read_zero s n z)
    go (too_few n z h) =
        let some : 0 < less_present (vint_length (get_or s 0 0)) s = omega arith in
        rw (read_short s n z h) (sym (lt-ltb 0 _ some))
    go (all_there n z h) = rw (read_whole s n z h)

-- ---- fewer bytes, and enough

-- and an octet
pub one_octet : Octets (128 ∷ [])
one_octet zero = omega arith
one_octet (suc i) = omega arith

-- a byte that is a vint
pub one_enough : vint_missing (read_vint (128 ∷ [])) ≡ 0
unfolding read_vint count_leading_zeros
one_enough = refl

-- where nothing is missing, the empty list is enough
pub nothing_missing : (missing : List ℕ → ℕ) (s : List ℕ) → missing s ≡ 0 → TellsMissing missing s
nothing_missing missing s e =
    record {
      fewer = λ t. rw e (omega arith);
      enough = record { further = []; bytes = λ i. omega arith; count = sym e; none = rw append-nil e };
    }

-- the first byte decides the length, and is there
module _ (s : List ℕ) (some : length s ≡ 0 → ⊥) (n : get_or s 0 0 ≡ 0 → ⊥) (short : length s < vint_length (get_or s 0 0)) where
  short_fewer : FewerStillMissing (λ l. vint_missing (read_vint l)) s
  short_fewer t = rw (short_missing s some n short) (go (dec_le (vint_length (get_or s 0 0)) (length s + length t)))
    where
      go : Dec (vint_length (get_or s 0 0) ≤ length s + length t)
          → less_present (vint_length (get_or s 0 0)) s ≤ length t + vint_missing (read_vint (s ++ t))
      go (yes h) = omega arith
      go (no f) =
          let first : get_or (s ++ t) 0 0 ≡ get_or s 0 0 = get_or-append s t 0 0 (omega arith) in
          let more : length (s ++ t) ≡ length s + length t = length-append s t in
          rw (short_missing (s ++ t) (λ x. omega arith) (λ x. n (sym first ∙ x)) (rw (first, more) (omega arith)), first, more) (omega arith)

  -- any bytes are enough
  pub short_enough : (t : List ℕ) → length t ≡ vint_missing (read_vint s) → vint_missing (read_vint (s ++ t)) ≡ 0
  short_enough t e =
      let first : get_or (s ++ t) 0 0 ≡ get_or s 0 0 = get_or-append s t 0 0 (omega arith) in
      let more : length (s ++ t) ≡ length s + length t = length-append s t in
      let c = short_missing s some n short in
      whole_missing (s ++ t) (λ x. omega arith) (λ x. n (sym first ∙ x)) (rw (first, more) (omega arith))

none_fewer : (s : List ℕ) → length s ≡ 0 → FewerStillMissing (λ l. vint_missing (read_vint l)) s
none_fewer s h t = rw (none_missing s h) (go (dec_le 1 (length t)))
  where
    go : Dec (1 ≤ length t) → missing_of_none ≤ length t + vint_missing (read_vint (s ++ t))
    go (yes l) = omega arith
    go (no f) = rw (none_missing (s ++ t) (length-append s t ∙ omega arith)) (omega arith)

-- the number of a vint's need-more, of any bytes
pub vint_missing_lem : (s : List ℕ) → TellsMissing (λ l. vint_missing (read_vint l)) s
vint_missing_lem s = go (reading s)
  where
    go : Reading s → TellsMissing (λ l. vint_missing (read_vint l)) s
    go (no_byte n) =
        record {
          fewer = none_fewer s n;
          enough = record { further = 128 ∷ []; bytes = one_octet; count = sym (none_missing s n); none = rw (sym (take_all 0 s (omega arith))) one_enough };
        }
    go (first_zero n z) = nothing_missing (λ l. vint_missing (read_vint l)) s (zero_missing s n z)
    go (too_few n z h) =
        let k = vint_missing (read_vint s) in
        record {
          fewer = short_fewer s n z h;
          enough = record { further = replicate k 0; bytes = octets_zeros [] k (λ i. omega arith); count = length-replicate k 0; none = short_enough s n z h (replicate k 0) (length-replicate k 0) };
        }
    go (all_there n z h) = nothing_missing (λ l. vint_missing (read_vint l)) s (whole_missing s n z h)

-- from the first byte on, any bytes are enough, as many as are missing
pub vint_enough : (s t : List ℕ) → 1 ≤ length s → length t ≡ vint_missing (read_vint s) → vint_missing (read_vint (s ++ t)) ≡ 0
vint_enough s t some e = go (reading s)
  where
    none : vint_missing (read_vint s) ≡ 0 → vint_missing (read_vint (s ++ t)) ≡ 0
    none z = rw (sym (take_all 0 t (rw (e, z) (omega arith)))) (rw append-nil z)

    go : Reading s → vint_missing (read_vint (s ++ t)) ≡ 0
    go (no_byte n) = absurd (omega arith)
    go (first_zero n z) = none (zero_missing s n z)
    go (too_few n z h) = short_enough s n z h t e
    go (all_there n z h) = none (whole_missing s n z h)

-- at most 8 bytes are missing
pub missing_few : (s : List ℕ) → vint_missing (read_vint s) ≤ 8
missing_few s = go (reading s)
  where
    go : Reading s → vint_missing (read_vint s) ≤ 8
    go (no_byte n) = rw (none_missing s n) (omega arith)
    go (first_zero n z) = rw (zero_missing s n z) (omega arith)
    go (too_few n z h) = rw (short_missing s n z h) (omega (arith, leading_le 8 (get_or s 0 0)))
    go (all_there n z h) = rw (whole_missing s n z h) (omega arith)

-- and of octets 7
pub octets_missing : (s : List ℕ) → Octets s → vint_missing (read_vint s) ≤ 7
octets_missing s byte = go (reading s)
  where
    go : Reading s → vint_missing (read_vint s) ≤ 7
    go (no_byte n) = rw (none_missing s n) (omega arith)
    go (first_zero n z) = rw (zero_missing s n z) (omega arith)
    go (too_few n z h) = rw (short_missing s n z h) (omega (arith, length-le_8 (get_or s 0 0) (omega arith) (byte 0)))
    go (all_there n z h) = rw (whole_missing s n z h) (omega arith)

-- ---- signed vints: the same number

pub signed_missing_same : (s : List ℕ) → signed_vint_missing (read_signed_vint s) ≡ vint_missing (read_vint s)
unfolding taken_signed
signed_missing_same s = go (read_vint s)
  where
    go : (r : Result (Status (ℕ × ℕ)) ToolError) → signed_vint_missing (taken_signed r) ≡ vint_missing r
    go (Ok (status.NeedMore missing)) = refl
    go (Err e) = refl
    go (Ok (status.Complete (v, L))) = refl

-- two readings that say the same number say it alike
pub same_missing : {f g : List ℕ → ℕ} → ((s : List ℕ) → g s ≡ f s) → (s : List ℕ) → TellsMissing f s → TellsMissing g s
same_missing same s m =
    let e = m.enough in
    record {
      fewer = λ t. rw (same s, same (s ++ t)) (m.fewer t);
      enough = record { further = e.further; bytes = e.bytes; count = e.count ∙ sym (same s); none = same _ ∙ e.none };
    }

pub signed_missing_few : (s : List ℕ) → signed_vint_missing (read_signed_vint s) ≤ 8
signed_missing_few s = rw (signed_missing_same s) (missing_few s)

-- the number of a signed vint's need-more, of any bytes
pub signed_missing : (s : List ℕ) → TellsMissing (λ l. signed_vint_missing (read_signed_vint l)) s
signed_missing s = same_missing signed_missing_same s (vint_missing_lem s)
