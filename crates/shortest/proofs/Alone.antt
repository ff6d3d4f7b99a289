-- A payload says the same wherever it lies: read at its place in the bytes w, or alone. Assumes nothing.
use Prim.Native.Nat.{ℕ, ◌+◌, ◌-◌, ◌≤◌}
use mathlib.Core.Path.{◌≡◌, refl, sym, ap, subst, ◌∙◌}
use mathlib.Core.Bool.{Bool, true, false, cond}
use mathlib.Core.List.{List, [], ◌∷◌}
use native.Mathlib.Omega.{arith}
use lib.Dec.{eqb}
use lib.ListN.{length, take, drop, length-drop}
use lib.Seq.{length-take-le, take-take}
use Rattle.basics.specs.Lists.{first_index}
use Rattle.tools.specs.Float.{arr_to_f64}
use Rattle.utf8.specs.Rfc3629.{is_text}
use Rattle.table.specs.declared.types.TagDataType.{TagDataType}
use Rattle.table.specs.declared.types.TagDataType.TheVariants as type
use Rattle.tag_parse.specs.Payload.{value_of, before_zero, float_or21}
use Rattle.tag_parse.specs.declared.types.ParseError.TheVariants.{FromUtf8Error}
use Rattle.tag_parse.specs.declared.types.Range.{Range}
use Rattle.tag_parse.specs.declared.types.TagValue.{TagValue}
use Rattle.tag_parse.specs.declared.types.TagValue.TheVariants.{Utf8}
use Rattle.tag_writer.specs.Document.{text, binary}
use Rattle.tag_writer.specs.ReadBack.{part, said_value}
use Rattle.shortest.specs.Says.{SaysValue}
use Rattle.std.specs.Prelude.{Err, Ok, Result}
use Rattle.tag_parse.specs.declared.types.ParseError.{ParseError}
use Rattle.tools.specs.declared.errors.ToolError.{ToolError}

first_within : (test : ℕ → Bool) (l : List ℕ) → first_index test l ≤ length l
unfolding first_index
first_within test [] = omega arith
first_within test (x ∷ l) = go (test x) (first_within test l)
  where
    go : (b : Bool) → first_index test l ≤ length l → cond b 0 (first_index test l + 1) ≤ length (x ∷ l)
    go true h = omega arith
    go false h = omega arith

module _ (w : List ℕ) (a n : ℕ) (whole : a + n ≤ length w) where
  -- the payload: n bytes of w from a on
  abbrev lying : List ℕ
  lying = take n (drop a w)

  lying_length : length lying ≡ n
  lying_length = length-take-le n (drop a w) (omega (arith, length-drop a w, whole))

  -- its first m bytes
  same_part_lem : (m : ℕ) (r alone : Range) → m ≤ n → r.begin ≡ a → r.end ≡ a + m → alone.begin ≡ 0 → alone.end ≡ m → part w r ≡ part lying alone
  same_part_lem m r alone h b e c f =
      let one : r.end - r.begin ≡ m = omega (arith, b, e) in
      let two : m ≡ alone.end - alone.begin = omega (arith, c, f) in
      ap (λ (k : ℕ). take (r.end - r.begin) (drop k w)) b ∙ ap (λ (k : ℕ). take k (drop a w)) one ∙ sym (take-take m n (drop a w) h)
      ∙ ap (λ (k : ℕ). take k lying) two ∙ ap (λ (k : ℕ). take (alone.end - alone.begin) (drop k lying)) (sym c)

  -- what is read in w, and alone, says the same
  abbrev Alike : Result TagValue ParseError → Result TagValue ParseError → Type 0
  Alike (Ok u) (Ok v) = said_value w u ≡ said_value lying v
  Alike (Ok u) (Err e) = ⊥
  Alike (Err e) (Ok v) = ⊥
  Alike (Err e) (Err f) = Unit {0}

  text_alike : (b : Bool) (r alone : Range) → part w r ≡ part lying alone → Alike (cond b (Ok (Utf8 r)) (Err FromUtf8Error)) (cond b (Ok (Utf8 alone)) (Err FromUtf8Error))
  text_alike true r alone e = ap text e
  text_alike false r alone e = tt

  float_alike : (x : Result ℕ ToolError) → Alike (float_or21 x) (float_or21 x)
  float_alike (Ok b) = refl
  float_alike (Err e) = tt

  float_or_alike : (b : Bool) → Alike (cond b (float_or21 (Ok 0)) (float_or21 (arr_to_f64 lying))) (cond b (float_or21 (Ok 0)) (float_or21 (arr_to_f64 lying)))
  float_or_alike true = refl
  float_or_alike false = float_alike (arr_to_f64 lying)

  module _ (r alone : Range) (b : r.begin ≡ a) (e : r.end ≡ a + n) (c : alone.begin ≡ 0) (f : alone.end ≡ n) where
    value_alike : (strict : Bool) (k : TagDataType) → Alike (value_of strict k lying r) (value_of strict k lying alone)
    unfolding value_of
    value_alike strict type.UnsignedInt = refl
    value_alike strict type.Integer = refl
    value_alike true type.Utf8 =
        let m = before_zero lying in
        let front : m ≤ n = omega (arith, first_within (λ x. eqb x 0) lying, lying_length) in
        text_alike (is_text (take m lying)) _ _ (same_part_lem m _ _ front b (omega (arith, b)) c (omega (arith, c)))
    value_alike false type.Utf8 = text_alike (is_text lying) r alone (same_part_lem n r alone (omega arith) b e c f)
    value_alike strict type.Binary = ap binary (same_part_lem n r alone (omega arith) b e c f)
    value_alike strict type.Float = float_or_alike (eqb (length lying) 0)
    value_alike strict type.Master = refl
    value_alike strict type.Untyped = refl

  -- a payload that is read at its place in w says alone what it says there
  pub says_alone : (strict : Bool) (k : TagDataType) (r : Range) (v : TagValue) → r.begin ≡ a → r.end ≡ a + n → value_of strict k lying r ≡ Ok v → SaysValue strict k lying (said_value w v)
  says_alone strict k r v b e q = go (value_of strict k lying alone) refl (subst (λ (y : Result TagValue ParseError). Alike y (value_of strict k lying alone)) q (value_alike r alone b e refl lying_length strict k))
    where
      alone : Range
      alone = record { begin = 0; end = length lying }

      go : (y : Result TagValue ParseError) → value_of strict k lying alone ≡ y → Alike (Ok v) y → SaysValue strict k lying (said_value w v)
      go (Ok u) f same = record { told = u; read = f; same = sym same }
      go (Err x) f same = absurd same
