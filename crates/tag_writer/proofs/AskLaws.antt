-- What is asked of a value, by the item's words: one law for each answer of `good_value`. Assumes nothing.
use Prim.Native.Nat.{ℕ, ◌+◌, ◌≤◌, ◌<◌}
use mathlib.Core.Path.{◌≡◌, refl, sym, ap, ◌∙◌}
use mathlib.Core.Bool.{Bool, true, false, cond, ◌&&◌, ◌||◌}
use mathlib.Core.List.{List}
use native.Mathlib.Omega.{arith}
use borrow.Author.Tests.{eq-eqb, ne_eqb, le-leb, lt-leb, leb-true, leb-false, eqb-true, eqb-false}
use lib.Dec.{leb, eqb}
use lib.ListN.{length, take, drop, length-drop}
use lib.Seq.{length-take-le}
use Rattle.tools.specs.Bytes.{be_number}
use Rattle.tools.specs.Twos.{signed_of}
use Rattle.tools.proofs.BigEndian.{length-be_bytes}
use Rattle.utf8.specs.Rfc3629.{is_text}
use Rattle.table.specs.declared.types.TagDataType.{TagDataType}
use Rattle.basics.proofs.Bools.{and_both}
use Rattle.tag_writer.specs.Document.{Value, unsigned, integer, float, payload, unsigned_width}
use Rattle.tag_writer.specs.Items.{raw_at, value_of, value_at}
use Rattle.tag_writer.specs.Write.{type_word, is_of_kind, greatest_size}
use Rattle.tag_writer.proofs.WidthLaws.{unsigned_least, integer_short}

either : (P : Value → Type 0) (test : Bool) {x y : Value} → (test ≡ true → P x) → (test ≡ false → P y) → P (cond test x y)
either P true f g = f refl
either P false f g = g refl

module _ (want : TagDataType) where
  Not : Value → Type 0
  Not v = is_of_kind want v ≡ false

  no_kind : (v : Value) → is_of_kind want v ≡ false → false ≡ (is_of_kind want v && leb (length (payload v)) greatest_size)
  no_kind v e = rw e

  module _ (vals : List ℕ) (kind offset n : ℕ) where
    abbrev v : Value
    v = value_at vals kind offset n

    abbrev good : Bool
    good = is_of_kind want v && leb (length (payload v)) greatest_size

    abbrev raw : List ℕ
    raw = raw_at vals offset n

    pub ask_outside : length vals < offset + n → false ≡ good
    unfolding value_at is_of_kind
    ask_outside h = no_kind v (rw (lt-leb _ _ h))

    module _ (inside : offset + n ≤ length vals) where
      is_value : v ≡ value_of kind raw
      unfolding value_at
      is_value = rw (le-leb _ _ inside)

      raw_length : length raw ≡ n
      raw_length = length-take-le n (drop offset vals) (omega (arith, length-drop offset vals))

      of_kind : (type_word want ≡ kind → ⊥) → (k : ℕ) → eqb kind k ≡ true → eqb (type_word want) k ≡ false
      of_kind other k e = ne_eqb (type_word want) k (λ z. other (z ∙ sym (eqb-true kind k e)))

      pub ask_kind : (type_word want ≡ kind → ⊥) → false ≡ good
      unfolding value_of is_of_kind Not
      ask_kind other = no_kind v (rw is_value
          (either Not (eqb kind 1) (λ e. either Not (eqb (length raw) 8) (λ q. of_kind other 1 e) (λ q. refl))
          (λ a. either Not (eqb kind 2) (λ e. either Not (eqb (length raw) 8) (λ q. of_kind other 2 e) (λ q. refl))
          (λ a. either Not (eqb kind 3) (λ e. rw (of_kind other 3 e))
          (λ a. either Not (eqb kind 4) (λ e. of_kind other 4 e)
          (λ a. either Not (eqb kind 5) (λ e. either Not (eqb (length raw) 8) (λ q. of_kind other 5 e) (λ q. refl)) (λ a. refl)))))))

      module _ (same : type_word want ≡ kind) where
        pub ask_text_bad : kind ≡ 3 → is_text (take n (drop offset vals)) ≡ false → false ≡ good
        unfolding value_of is_of_kind
        ask_text_bad e t = no_kind v (rw (is_value, e, t) (and_no (eqb (type_word want) 3)))
          where
            and_no : (a : Bool) → (a && false) ≡ false
            and_no true = refl
            and_no false = refl

        pub ask_text : (r : Bool) → kind ≡ 3 → is_text (take n (drop offset vals)) ≡ true → r ≡ leb n greatest_size → r ≡ good
        unfolding value_of is_of_kind payload
        ask_text r e t f = let w : type_word want ≡ 3 = same ∙ e in rw (is_value, e, w, t, raw_length) f

        pub ask_binary : (r : Bool) → kind ≡ 4 → r ≡ leb n greatest_size → r ≡ good
        unfolding value_of is_of_kind payload
        ask_binary r e f = let w : type_word want ≡ 4 = same ∙ e in rw (is_value, e, w, raw_length) f

        pub ask_short : (kind ≡ 3 → ⊥) → (kind ≡ 4 → ⊥) → (n ≡ 8 → ⊥) → false ≡ good
        unfolding value_of is_of_kind Not
        ask_short a b c =
            let f : eqb (length raw) 8 ≡ false = ne_eqb _ _ (λ z. c (sym raw_length ∙ z)) in
            no_kind v (rw (is_value, f, ne_eqb _ _ a, ne_eqb _ _ b)
            (either Not (eqb kind 1) (λ e. refl) (λ x. either Not (eqb kind 2) (λ e. refl) (λ y. either Not (eqb kind 5) (λ e. refl) (λ z. refl)))))

        module _ (whole : n ≡ 8) where
          is_eight : eqb (length raw) 8 ≡ true
          is_eight = eq-eqb _ _ (raw_length ∙ whole)

          as_value : (u : Value) → v ≡ u → is_of_kind want u ≡ true → length (payload u) ≤ 4_000_000_000 → true ≡ good
          as_value u vi k l = sym (ap (λ (x : Value). is_of_kind want x && leb (length (payload x)) greatest_size) vi ∙ and_both k (le-leb _ _ l))

          ask_unsigned : kind ≡ 1 → true ≡ good
          unfolding value_of is_of_kind payload
          ask_unsigned e =
              let b = be_number raw in
              as_value (unsigned b) (is_value ∙ rw (e, is_eight)) (eq-eqb (type_word want) 1 (same ∙ e))
              (omega (arith, length-be_bytes (unsigned_width b) b, (unsigned_least b).hi))

          ask_integer : kind ≡ 2 → true ≡ good
          unfolding value_of is_of_kind payload
          ask_integer e =
              let z = signed_of 64 (be_number raw) in
              as_value (integer z) (is_value ∙ rw (e, is_eight)) (eq-eqb (type_word want) 2 (same ∙ e)) (omega (arith, integer_short z))

          ask_float : kind ≡ 5 → true ≡ good
          unfolding value_of is_of_kind payload
          ask_float e =
              let b = be_number raw in
              as_value (float b) (is_value ∙ rw (e, is_eight)) (eq-eqb (type_word want) 5 (same ∙ e)) (omega (arith, length-be_bytes 8 b))

          ask_last : (kind ≡ 1 → ⊥) → (kind ≡ 2 → ⊥) → (kind ≡ 3 → ⊥) → (kind ≡ 4 → ⊥) → eqb kind 5 ≡ good
          unfolding value_of is_of_kind payload
          ask_last a b c d = by (eqb kind 5) refl
            where
              by : (t : Bool) → eqb kind 5 ≡ t → eqb kind 5 ≡ good
              by true e = e ∙ ask_float (eqb-true kind 5 e)
              by false e = e ∙ no_kind v (rw (is_value, ne_eqb _ _ a, ne_eqb _ _ b, ne_eqb _ _ c, ne_eqb _ _ d, e))

          pub ask_number : (r : Bool) → (kind ≡ 3 → ⊥) → (kind ≡ 4 → ⊥) → r ≡ (eqb kind 1 || (eqb kind 2 || eqb kind 5)) → r ≡ good
          ask_number r c d e = e ∙ first (eqb kind 1) refl
            where
              second : (t : Bool) → eqb kind 2 ≡ t → eqb kind 1 ≡ false → (eqb kind 2 || eqb kind 5) ≡ good
              second true q p = ap (λ (b : Bool). b || eqb kind 5) q ∙ ask_integer (eqb-true kind 2 q)
              second false q p = ap (λ (b : Bool). b || eqb kind 5) q ∙ ask_last (eqb-false kind 1 p) (eqb-false kind 2 q) c d

              first : (t : Bool) → eqb kind 1 ≡ t → (eqb kind 1 || (eqb kind 2 || eqb kind 5)) ≡ good
              first true q = ap (λ (b : Bool). b || (eqb kind 2 || eqb kind 5)) q ∙ ask_unsigned (eqb-true kind 1 q)
              first false q = ap (λ (b : Bool). b || (eqb kind 2 || eqb kind 5)) q ∙ second (eqb kind 2) refl q

    -- the same as the code tests it
    pub tested_outside : leb (offset + n) (length vals) ≡ false → false ≡ good
    tested_outside h = ask_outside (leb-false _ _ h)

    pub tested_kind : leb (offset + n) (length vals) ≡ true → (type_word want ≡ kind → ⊥) → false ≡ good
    tested_kind h other = ask_kind (leb-true _ _ h) other

    module _ (h : leb (offset + n) (length vals) ≡ true) (same : type_word want ≡ kind) where
      pub tested_text_bad : kind ≡ 3 → is_text (take n (drop offset vals)) ≡ false → false ≡ good
      tested_text_bad e t = ask_text_bad (leb-true _ _ h) same e t

      pub tested_text : kind ≡ 3 → is_text (take n (drop offset vals)) ≡ true → leb n greatest_size ≡ good
      tested_text e t = ask_text (leb-true _ _ h) same (leb n greatest_size) e t refl

      pub tested_binary : kind ≡ 4 → leb n greatest_size ≡ good
      tested_binary e = ask_binary (leb-true _ _ h) same (leb n greatest_size) e refl

      pub tested_short : (kind ≡ 3 → ⊥) → (kind ≡ 4 → ⊥) → (n ≡ 8 → ⊥) → false ≡ good
      tested_short a b c = ask_short (leb-true _ _ h) same a b c

      pub tested_number : n ≡ 8 → (kind ≡ 3 → ⊥) → (kind ≡ 4 → ⊥) → (eqb kind 1 || (eqb kind 2 || eqb kind 5)) ≡ good
      tested_number w a b = ask_number (leb-true _ _ h) same w (eqb kind 1 || (eqb kind 2 || eqb kind 5)) a b refl

-- each answer of `good_value`
pub ruleset answers_of_value = (tested_outside, tested_kind, tested_text_bad, tested_text, tested_binary, tested_short, tested_number)
