-- A payload that is written is read back as its value. Assumes nothing.
use Prim.Native.Nat.{ℕ, zero, suc, ◌+◌, ◌*◌, ◌^◌, ◌≤◌, ◌<◌}
use mathlib.Core.Path.{◌≡◌, refl, sym, ap, ◌∙◌}
use mathlib.Core.Bool.{Bool, true, false, cond, not, ◌&&◌, ◌||◌}
use mathlib.Core.List.{List}
use native.Mathlib.Omega.{arith}
use borrow.Author.Tests.{eqb-true, ne_eqb}
use lib.Dec.{ltb, eqb}
use lib.IntN.{ℤ, pos, negsuc}
use lib.ListN.{length}
use lib.Signed.{mag}
use Rattle.basics.proofs.Bools.{both, or_some}
use Rattle.tools.specs.Bytes.{be_bytes}
use Rattle.tools.specs.Float.{arr_to_f64}
use Rattle.tools.specs.Integer.{integer_of}
use Rattle.tools.specs.Twos.{bits_of}
use Rattle.tools.proofs.BigEndian.{length-be_bytes, be_bytes_lem}
use Rattle.tools.proofs.Signed.{bits_lt, bits_back}
use Rattle.utf8.specs.Rfc3629.{is_text}
use Rattle.table.specs.declared.types.TagDataType.{TagDataType}
use Rattle.table.specs.declared.types.TagDataType.TheVariants as type
use Rattle.table.specs.Table.{is_master}
use Rattle.tag_parse.specs.Header.{numeric, too_long}
use Rattle.tag_parse.specs.Payload.{value_of}
use Rattle.tag_parse.specs.declared.types.Range.{Range}
use Rattle.tag_parse.specs.declared.types.TagValue.{TagValue}
use Rattle.tag_parse.specs.declared.types.TagValue.TheVariants as told
use Rattle.tag_parse.proofs.Cases.{not_long}
use Rattle.decoder_rules.specs.Strictly.{no_zero, is_utf8}
use Rattle.decoder_rules.proofs.StrictAlike.{value_alike}
use Rattle.tag_writer.specs.Document.{Value, unsigned, integer, text, binary, float, wrong, unsigned_width, integer_width, integer_bytes, payload}
use Rattle.tag_writer.specs.ReadBack.{is_whole}
use Rattle.tag_writer.specs.Write.{type_word, is_of_kind}
use Rattle.tag_writer.proofs.WidthLaws.{unsigned_least, unsigned_holds, integer_least, integer_holds, integer_short}
use Rattle.std.specs.Prelude.{Ok}

-- ---- the kind

abbrev type_at : ℕ → TagDataType
type_at n = cond (eqb n 0) type.Master (cond (eqb n 1) type.UnsignedInt (cond (eqb n 2) type.Integer (cond (eqb n 3) type.Utf8 (cond (eqb n 4) type.Binary (cond (eqb n 5) type.Float type.Untyped)))))

back : (k : TagDataType) → type_at (type_word k) ≡ k
unfolding type_word
back type.Master = refl
back type.UnsignedInt = refl
back type.Integer = refl
back type.Utf8 = refl
back type.Binary = refl
back type.Float = refl
back type.Untyped = refl

type_is : (k : TagDataType) (n : ℕ) → eqb (type_word k) n ≡ true → k ≡ type_at n
type_is k n e = sym (back k) ∙ ap type_at (eqb-true (type_word k) n e)

-- ---- numbers are in range

-- what is asked of a value for its payload to hold it
abbrev pub Fits : Value → Type 0
Fits (unsigned n) = n < 2 ^ 64
Fits (integer z) = mag z < 2 ^ 63
Fits (text s) = Unit {0}
Fits (binary s) = Unit {0}
Fits (float b) = b < 2 ^ 64
Fits wrong = Unit {0}

-- ---- read back

-- an unsigned number
unsigned_back : (n : ℕ) (r : Range) → n < 2 ^ 64 → value_of false type.UnsignedInt (be_bytes (unsigned_width n) n) r ≡ Ok (told.UnsignedInt n)
unfolding value_of
unsigned_back n r h = rw (be_bytes_lem (unsigned_width n) n (unsigned_holds n h))

-- a signed number that is not 0
integer_some : (z : ℤ) (r : Range) → mag z < 2 ^ 63 → value_of false type.Integer (be_bytes (integer_width z) (bits_of (8 * integer_width z) z)) r ≡ Ok (told.Integer z)
unfolding value_of integer_of
integer_some z r h =
    let k = integer_width z in
    let m : 1 ≤ k = (integer_least z).lo in
    let no : k ≡ 0 → ⊥ = λ e. omega arith in
    let q : 1 ≤ 8 * k = omega arith in
    let g = integer_holds z h in
    rw (length-be_bytes k (bits_of (8 * k) z), ne_eqb _ _ no, be_bytes_lem k (bits_of (8 * k) z) (bits_lt (8 * k) z q g), bits_back (8 * k) z q g)

-- a signed number
integer_back : (z : ℤ) (r : Range) → mag z < 2 ^ 63 → value_of false type.Integer (integer_bytes z) r ≡ Ok (told.Integer z)
unfolding integer_bytes value_of integer_of
integer_back (pos zero) r h = refl
integer_back (pos (suc n)) r h = integer_some (pos (suc n)) r h
integer_back (negsuc n) r h = integer_some (negsuc n) r h

-- a float
float_back : (b : ℕ) (r : Range) → b < 2 ^ 64 → value_of false type.Float (be_bytes 8 b) r ≡ Ok (told.Float b)
unfolding value_of arr_to_f64
float_back b r h = rw (length-be_bytes 8 b, be_bytes_lem 8 b h)

-- a text
text_back : (s : List ℕ) (r : Range) → is_text s ≡ true → value_of false type.Utf8 s r ≡ Ok (told.Utf8 r)
unfolding value_of
text_back s r e = rw e

-- bytes
binary_back : (s : List ℕ) (r : Range) → value_of false type.Binary s r ≡ Ok (told.Binary r)
unfolding value_of
binary_back s r = refl

-- the value of the event
abbrev pub value_told : Value → Range → TagValue
value_told (unsigned n) r = told.UnsignedInt n
value_told (integer z) r = told.Integer z
value_told (text s) r = told.Utf8 r
value_told (binary s) r = told.Binary r
value_told (float b) r = told.Float b
value_told wrong r = told.Raw r

module _ (k : TagDataType) (r : Range) where
  -- as ported a payload reads back as its value
  ported_back : (v : Value) → is_of_kind k v ≡ true → Fits v → value_of false k (payload v) r ≡ Ok (value_told v r)
  unfolding is_of_kind payload
  ported_back (unsigned n) e f = rw (type_is k 1 e) (unsigned_back n r f)
  ported_back (integer z) e f = rw (type_is k 2 e) (integer_back z r f)
  ported_back (text s) e f = let b = both (eqb (type_word k) 3) (is_text s) e in rw (type_is k 3 b.left) (text_back s r b.right)
  ported_back (binary s) e f = rw (type_is k 4 e) (binary_back s r)
  ported_back (float b) e f = rw (type_is k 5 e) (float_back b r f)
  ported_back wrong e f = let z : ◌≡◌ {A = ℕ} 0 1 = cc in absurd (omega arith)

  -- a value that is no text with a zero byte has no such payload
  whole_payload : (v : Value) → is_of_kind k v ≡ true → is_whole v ≡ true → (not (is_utf8 k) || no_zero (payload v)) ≡ true
  unfolding is_of_kind payload
  whole_payload (unsigned n) e w = rw (type_is k 1 e)
  whole_payload (integer z) e w = rw (type_is k 2 e)
  whole_payload (text s) e w = rw w (sym (or_some (not (is_utf8 k))))
  whole_payload (binary s) e w = rw (type_is k 4 e)
  whole_payload (float b) e w = rw (type_is k 5 e)
  whole_payload wrong e w = let z : ◌≡◌ {A = ℕ} 0 1 = cc in absurd (omega arith)

-- strictly too, where no text has a zero byte
pub value_back : (strict : Bool) (k : TagDataType) (r : Range) (v : Value) → is_of_kind k v ≡ true → Fits v → (not strict || is_whole v) ≡ true
    → r.end ≡ r.begin + length (payload v) → value_of strict k (payload v) r ≡ Ok (value_told v r)
value_back false k r v e f w q = ported_back k r v e f
value_back true k r v e f w q = sym (value_alike true k (payload v) r q (whole_payload k r v e w)) ∙ ported_back k r v e f

-- ---- a size that is not too long for its type

and_no : (a : Bool) → (a && false) ≡ false
and_no true = refl
and_no false = refl

-- none is too long for a type that is no number
pub not_numeric : (k : TagDataType) (n : ℕ) → numeric k ≡ false → too_long k n ≡ false
unfolding too_long
not_numeric k n e = rw e (and_no (ltb 8 n))

-- a payload is short enough for its type
pub value_short : (k : TagDataType) (v : Value) → is_of_kind k v ≡ true → too_long k (length (payload v)) ≡ false
unfolding is_of_kind payload
value_short k (unsigned n) e = not_long k _ (rw (length-be_bytes (unsigned_width n) n) (unsigned_least n).hi)
value_short k (integer z) e = not_long k _ (integer_short z)
value_short k (text s) e = not_numeric k _ (ap numeric (type_is k 3 (both (eqb (type_word k) 3) (is_text s) e).left))
value_short k (binary s) e = not_numeric k _ (ap numeric (type_is k 4 e))
value_short k (float b) e = not_long k _ (rw (length-be_bytes 8 b) (omega arith))
value_short k wrong e = let z : ◌≡◌ {A = ℕ} 0 1 = cc in absurd (omega arith)

-- such a type is no Master, and is one of the table's
pub value_typed : (k : TagDataType) (v : Value) → is_of_kind k v ≡ true → (is_master k ≡ false) × (k ≡ type.Untyped → ⊥)
unfolding is_of_kind is_master
value_typed k (unsigned n) e = other (type_is k 1 e)
  where
    other : k ≡ type.UnsignedInt → (is_master k ≡ false) × (k ≡ type.Untyped → ⊥)
    other q = (ap is_master q, λ u. let z : ◌≡◌ {A = ℕ} 0 1 = cc in omega arith)
value_typed k (integer z) e = let q = type_is k 2 e in (ap is_master q, λ u. let z : ◌≡◌ {A = ℕ} 0 1 = cc in omega arith)
value_typed k (text s) e = let q = type_is k 3 (both (eqb (type_word k) 3) (is_text s) e).left in (ap is_master q, λ u. let z : ◌≡◌ {A = ℕ} 0 1 = cc in omega arith)
value_typed k (binary s) e = let q = type_is k 4 e in (ap is_master q, λ u. let z : ◌≡◌ {A = ℕ} 0 1 = cc in omega arith)
value_typed k (float b) e = let q = type_is k 5 e in (ap is_master q, λ u. let z : ◌≡◌ {A = ℕ} 0 1 = cc in omega arith)
value_typed k wrong e = let z : ◌≡◌ {A = ℕ} 0 1 = cc in absurd (omega arith)
