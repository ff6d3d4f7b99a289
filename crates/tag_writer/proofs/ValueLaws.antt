-- How many bytes the payload of a value takes, by the item's words: one law for each answer of `value_size`. Assumes
-- nothing.
use Prim.Native.Nat.{ℕ, ◌+◌, ◌-◌, ◌≤◌, ◌<◌}
use mathlib.Core.Path.{◌≡◌, refl, sym, ap, ◌∙◌}
use mathlib.Core.Bool.{Bool, true, false, cond}
use mathlib.Core.List.{List}
use native.Mathlib.Omega.{arith}
use borrow.Author.Tests.{eq-eqb, ne_eqb, le-leb, lt-leb, leb-true, leb-false}
use lib.Dec.{leb, eqb}
use lib.ListN.{length, take, drop, length-drop}
use lib.Seq.{length-take-le}
use Rattle.basics.proofs.Bools.{same_truth}
use Rattle.tools.specs.Bytes.{be_number}
use Rattle.tools.specs.Twos.{signed_of}
use Rattle.tools.proofs.BigEndian.{length-be_bytes}
use Rattle.tag_writer.specs.Document.{Value, payload, unsigned_width, integer_bytes}
use Rattle.tag_writer.specs.Items.{raw_at, value_of, value_at}

either : (P : Value → Type 0) (test : Bool) {x y : Value} → (test ≡ true → P x) → P y → P (cond test x y)
either P true f g = f refl
either P false f g = g

-- a range lies in so many values, as `lies_in` tests it
pub lies_is : (len from count offset n : ℕ) → from ≡ offset → count ≡ n → from ≤ len → leb count (len - from) ≡ leb (offset + n) len
lies_is len from count offset n e f h =
    same_truth (leb count (len - from)) (leb (offset + n) len)
    (λ t. let l = leb-true count (len - from) t in le-leb (offset + n) len (omega arith))
    (λ t. let l = leb-true (offset + n) len t in le-leb count (len - from) (omega arith))

-- a range lies in the values, or does not, as `lies_in` answers
pub lies : {b : Bool} {m l : ℕ} → b ≡ leb m l → b ≡ true → m ≤ l
lies {b} {m} {l} e t = leb-true m l (sym e ∙ t)

pub lies_not : {b : Bool} {m l : ℕ} → b ≡ leb m l → b ≡ false → l < m
lies_not {b} {m} {l} e t = leb-false m l (sym e ∙ t)

module _ (vals : List ℕ) (kind offset n : ℕ) where
  abbrev paid_for : ℕ
  paid_for = length (payload (value_at vals kind offset n))

  abbrev raw : List ℕ
  raw = raw_at vals offset n

  pub size_outside : length vals < offset + n → 0 ≡ paid_for
  unfolding value_at payload
  size_outside h = rw (lt-leb _ _ h)

  module _ (inside : offset + n ≤ length vals) where
    raw_length : length raw ≡ n
    raw_length = length-take-le n (drop offset vals) (omega (arith, length-drop offset vals))

    pub size_text_lem : kind ≡ 3 → n ≡ paid_for
    unfolding value_at value_of payload
    size_text_lem e = rw (le-leb _ _ inside, e, raw_length)

    pub size_binary : kind ≡ 4 → n ≡ paid_for
    unfolding value_at value_of payload
    size_binary e = rw (le-leb _ _ inside, e, raw_length)

    pub size_short : (kind ≡ 3 → ⊥) → (kind ≡ 4 → ⊥) → (n ≡ 8 → ⊥) → 0 ≡ paid_for
    unfolding value_at value_of payload
    size_short a b c =
        let f : eqb (length raw) 8 ≡ false = ne_eqb _ _ (λ z. c (sym raw_length ∙ z)) in
        rw (le-leb _ _ inside, f, ne_eqb _ _ a, ne_eqb _ _ b)
        (either None (eqb kind 1) (λ e. refl) (either None (eqb kind 2) (λ e. refl) (either None (eqb kind 5) (λ e. refl) refl)))
      where
        None : Value → Type 0
        None v = 0 ≡ length (payload v)

    module _ (whole : n ≡ 8) where
      is_eight : eqb (length raw) 8 ≡ true
      is_eight = eq-eqb _ _ (raw_length ∙ whole)

      raw_is : raw ≡ take 8 (drop offset vals)
      raw_is = ap (λ (k : ℕ). take k (drop offset vals)) whole

      pub size_float : kind ≡ 5 → 8 ≡ paid_for
      unfolding value_at value_of payload
      size_float e = rw (le-leb _ _ inside, e, is_eight) (sym (length-be_bytes 8 (be_number raw)))

      pub size_unsigned : (w b : ℕ) → kind ≡ 1 → w ≡ unsigned_width b → b ≡ be_number (take 8 (drop offset vals)) → w ≡ paid_for
      unfolding value_at value_of payload
      size_unsigned w b e f g = rw (le-leb _ _ inside, e, is_eight, length-be_bytes (unsigned_width (be_number raw)) (be_number raw)) (f ∙ ap unsigned_width (g ∙ ap be_number (sym raw_is)))

      pub size_integer : (w b : ℕ) → kind ≡ 2 → w ≡ length (integer_bytes (signed_of 64 b)) → b ≡ be_number (take 8 (drop offset vals)) → w ≡ paid_for
      unfolding value_at value_of payload
      size_integer w b e f g = rw (le-leb _ _ inside, e, is_eight) (f ∙ ap (λ (k : ℕ). length (integer_bytes (signed_of 64 k))) (g ∙ ap be_number (sym raw_is)))

      pub size_none : (kind ≡ 1 → ⊥) → (kind ≡ 2 → ⊥) → (kind ≡ 3 → ⊥) → (kind ≡ 4 → ⊥) → (kind ≡ 5 → ⊥) → 0 ≡ paid_for
      unfolding value_at value_of payload
      size_none a b c d e = rw (le-leb _ _ inside, ne_eqb _ _ a, ne_eqb _ _ b, ne_eqb _ _ c, ne_eqb _ _ d, ne_eqb _ _ e)
