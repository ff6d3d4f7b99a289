-- What says a document has at least the bytes that the writer gives it: of each element the ID and the size stand in no
-- fewer bytes, a payload has no fewer, and a Master's size, which is that of its children, is no smaller. Assumes
-- nothing.
use Prim.Native.Nat.{ℕ, zero, suc, ◌+◌, ◌-◌, ◌*◌, ◌^◌, ◌≤◌, ◌<◌}
use mathlib.Core.Path.{◌≡◌, refl, sym, ap, subst, ◌∙◌}
use mathlib.Core.Bool.{Bool, true, false, cond, true≢false}
use mathlib.Core.List.{List}
use native.Mathlib.Omega.{arith}
use native.Mathlib.Decide.{dec_le}
use borrow.Author.Tests.{eqb-false, lt-ltb}
use lib.Dec.{ltb, eqb}
use lib.IntN.{ℤ, pos, negsuc}
use lib.ListN.{length, take, drop, length-take, length-drop}
use lib.Seq.{length-take-le}
use lib.Signed.{mag}
use Rattle.basics.proofs.Bools.{absurd_eq, pick, either}
use Rattle.tools.specs.Bytes.{Octets, be_number}
use Rattle.tools.specs.Float.{arr_to_f64}
use Rattle.tools.specs.Integer.{integer_of}
use Rattle.tools.specs.Twos.{signed_of, bits_of}
use Rattle.tools.specs.Vint.{Least, vint_width, all_ones}
use Rattle.tools.proofs.BigEndian.{length-be_bytes, be_lt, octets_take}
use Rattle.tools.proofs.Least.{least}
use Rattle.tools.proofs.Signed.{payload_range}
use Rattle.utf8.specs.Rfc3629.{is_text}
use Rattle.table.specs.Table.{Entry}
use Rattle.table.specs.declared.types.TagDataType.{TagDataType}
use Rattle.table.specs.declared.types.TagDataType.TheVariants as type
use Rattle.tag_parse.specs.Header.{size_of, IsHeader}
use Rattle.tag_parse.specs.Payload.{before_zero, value_of, float_or21}
use Rattle.tag_parse.specs.declared.types.EBMLSize.TheVariants.{Known, Unknown}
use Rattle.tag_parse.specs.declared.types.ParseError.TheVariants.{FromUtf8Error}
use Rattle.tag_parse.specs.declared.types.Range.{Range}
use Rattle.tag_parse.specs.declared.types.TagValue.TheVariants.{Utf8}
use Rattle.tag_parse.proofs.Cases.{octets_drop}
use Rattle.tag_parse.proofs.Headers.{header_sound}
use Rattle.tag_parse.proofs.Ids.{first_of_id}
use Rattle.tag_writer.specs.Document.{Value, Element, value, master, Run, none, then, unsigned_width, integer_width, integer_bytes, payload, id_width, header_bytes, size_of_element, size_of_run}
use Rattle.tag_writer.specs.ReadBack.{part, said_value}
use Rattle.tag_writer.proofs.WidthLaws.{id_length_lem, header_length_lem, unsigned_least, integer_least}
use Rattle.shortest.specs.Says.{Headed, SaysValue, is_float, SaysDatum, SaysElement, Says}
use Rattle.std.specs.Prelude.{Err, Ok, Result}
use Rattle.tag_parse.specs.declared.types.ParseError.{ParseError}
use Rattle.tag_parse.specs.declared.types.TagValue.{TagValue}
use Rattle.tools.specs.declared.errors.ToolError.{ToolError}

-- ---- widths

-- the least that passes is no greater than another that does
at_most : (test : ℕ → Bool) (L top w k : ℕ) → Least test L top w → L ≤ k → test k ≡ true → w ≤ k
at_most test L top w k l h e = go (dec_le w k)
  where
    go : Dec (w ≤ k) → w ≤ k
    go (yes le) = le
    go (no f) = absurd (true≢false (sym e ∙ l.none k h (omega arith)))

-- a number that n bytes hold, n not 0, is an ID of at most n bytes
id_least : (x n : ℕ) → 1 ≤ n → x < 2 ^ (8 * n) → id_width x ≤ n
id_least x n some h = at_most _ 1 8 (id_width x) n (least (λ k. ltb x (2 ^ (8 * k))) 7 1) some (lt-ltb _ _ h)

-- where L bytes say a known size, they hold every smaller one
size_least : (m v L : ℕ) → m ≤ v → 1 ≤ L → v < 2 ^ (7 * L) → all_ones L v ≡ false → vint_width m ≤ L
size_least m v L h some below known =
    let not_ones = eqb-false v (2 ^ (7 * L) - 1) known in
    let less : m < 2 ^ (7 * L) - 1 = omega (arith, h, below, not_ones) in
    at_most _ 1 8 (vint_width m) L (least (λ k. ltb m (2 ^ (7 * k) - 1)) 7 1) some (lt-ltb _ _ less)

-- k bytes hold the numbers below 2 ^ (8 k), and in two's complement those of a magnitude below 2 ^ (8 k - 1)
unsigned_width_lem : (n k : ℕ) → n < 2 ^ (8 * k) → unsigned_width n ≤ k
unsigned_width_lem n k h = at_most _ 0 8 (unsigned_width n) k (unsigned_least n) (omega arith) (lt-ltb _ _ h)

integer_width_lem : (z : ℤ) (k : ℕ) → 1 ≤ k → mag z < 2 ^ (8 * k - 1) → integer_width z ≤ k
integer_width_lem z k some h = at_most _ 1 8 (integer_width z) k (integer_least z) some (lt-ltb _ _ h)

-- ---- headers

-- of a size that is known, the value and that its bits are not all ones
known_is : (v L n : ℕ) → size_of v L ≡ Known n → (v ≡ n) × (all_ones L v ≡ false)
unfolding size_of
known_is v L n e = go (all_ones L v) refl e
  where
    go : (b : Bool) → all_ones L v ≡ b → cond b Unknown (Known v) ≡ Known n → (v ≡ n) × (all_ones L v ≡ false)
    go true q f = let z : ◌≡◌ {A = ℕ} 0 1 = cc in absurd_eq z
    go false q f = let same : v ≡ n = cc in (same, q)

-- a header that says a size of m or more is no shorter than the one that is written for m
pub header_least : (t : List Entry) (s : List ℕ) (x m n : ℕ) (u : List ℕ) → Octets s → (h : Headed t s x n u) → m ≤ n → length (header_bytes x m) ≤ h.its.len
header_least t s x m n u byte h l =
    let i : IsHeader h.its s = header_sound t s h.its byte h.read in
    let octets = take i.n s in
    let some : 1 ≤ i.n = (first_of_id octets i.identifier).some in
    let held : x < 2 ^ (8 * i.n) =
    subst (λ (k : ℕ). x < 2 ^ (8 * k)) i.identifier.count (subst (λ (y : ℕ). y < 2 ^ (8 * length octets)) (i.identifier.number ∙ h.id) (be_lt octets (octets_take i.n s byte))) in
    let k = known_is i.v i.L n (sym i.size ∙ h.known) in
    let size : vint_width m ≤ i.L = size_least m i.v i.L (omega (arith, l, k.0)) i.vint.vint.at_least_1 i.vint.vint.below k.1 in
    omega (arith, header_length_lem x m, id_length_lem x, id_least x i.n some held, size, i.taken)

-- ---- payloads

integer_least_bytes : (z : ℤ) (k : ℕ) → 1 ≤ k → mag z < 2 ^ (8 * k - 1) → length (integer_bytes z) ≤ k
unfolding integer_bytes
integer_least_bytes (pos zero) k some h = omega arith
integer_least_bytes (pos (suc n)) k some h = rw (length-be_bytes (integer_width (pos (suc n))) (suc n)) (integer_width_lem (pos (suc n)) k some h)
integer_least_bytes (negsuc n) k some h = rw (length-be_bytes (integer_width (negsuc n)) (bits_of (8 * integer_width (negsuc n)) (negsuc n))) (integer_width_lem (negsuc n) k some h)

module _ (s : List ℕ) (byte : Octets s) where
  -- what is read of the payload s is written in no more bytes; a float where it has 8
  abbrev NoMore : Result TagValue ParseError → Type 0
  NoMore (Ok v) = (is_float (said_value s v) ≡ true → length s ≡ 8) → length (payload (said_value s v)) ≤ length s
  NoMore (Err e) = Unit {0}

  part_least : (r : Range) → length (part s r) ≤ length s
  part_least r = omega (arith, length-take (r.end - r.begin) (drop r.begin s), length-drop r.begin s)

  integer_of_lem : length (integer_bytes (integer_of s)) ≤ length s
  unfolding integer_of integer_bytes
  integer_of_lem = pick (λ (z : ℤ). length (integer_bytes z) ≤ length s) (eqb (length s) 0) (pos 0) it (λ e. omega arith) some_bytes
    where
      it : ℤ
      it = signed_of (8 * length s) (be_number s)

      some_bytes : eqb (length s) 0 ≡ false → length (integer_bytes it) ≤ length s
      some_bytes e =
          let not_None = eqb-false (length s) 0 e in
          let some : 1 ≤ length s = omega (arith, not_None) in
          integer_least_bytes it (length s) some (payload_range s byte some)

  text_of : (b : Bool) (r : Range) → NoMore (cond b (Ok (Utf8 r)) (Err FromUtf8Error))
  unfolding payload
  text_of true r = λ wide. part_least r
  text_of false r = tt

  float_of : (a : Result ℕ ToolError) → NoMore (float_or21 a)
  unfolding payload
  float_of (Ok b) = λ wide. omega (arith, length-be_bytes 8 b, wide refl)
  float_of (Err e) = tt

  read_least : (strict : Bool) (k : TagDataType) (r : Range) → NoMore (value_of strict k s r)
  unfolding value_of payload
  read_least strict type.UnsignedInt r = λ wide. rw (length-be_bytes (unsigned_width (be_number s)) (be_number s)) (unsigned_width_lem (be_number s) (length s) (be_lt s byte))
  read_least strict type.Integer r = λ wide. integer_of_lem
  read_least true type.Utf8 r = text_of (is_text (take (before_zero s) s)) _
  read_least false type.Utf8 r = text_of (is_text s) r
  read_least strict type.Binary r = λ wide. part_least r
  read_least strict type.Float r = either NoMore (eqb (length s) 0) _ _ (float_of (Ok 0)) (float_of (arr_to_f64 s))
  read_least strict type.Master r = λ wide. omega arith
  read_least strict type.Untyped r = λ wide. omega arith

  -- a payload that is read as a value is no shorter than the one that is written for it
  pub payload_least : (strict : Bool) (k : TagDataType) (v : Value) → SaysValue strict k s v → (is_float v ≡ true → length s ≡ 8) → length (payload v) ≤ length s
  payload_least strict k v says wide =
      subst (λ (y : Value). length (payload y) ≤ length s) says.same
      (subst NoMore says.read (read_least strict k _) (λ f. wide (sym (ap is_float says.same) ∙ f)))

-- ---- elements and runs

module _ (strict : Bool) (t : List Entry) where
  -- a value takes no fewer bytes
  datum_least : (s : List ℕ) (x : ℕ) (v : Value) (u : List ℕ) → Octets s → SaysDatum strict t s x v u → size_of_element (value x v) + length u ≤ length s
  unfolding size_of_element
  datum_least s x v u byte d =
      let h = d.headed in
      let p : List ℕ = take d.size (drop h.its.len s) in
      let count : length p ≡ d.size = length-take-le d.size (drop h.its.len s) (omega (arith, length-drop h.its.len s, h.whole)) in
      let bytes : Octets p = octets_take d.size _ (octets_drop h.its.len s byte) in
      let less : length (payload v) ≤ length p = payload_least p bytes strict h.its.kind v d.says (λ f. count ∙ d.wide f) in
      let head = header_least t s x (length (payload v)) d.size u byte h (omega (arith, less, count)) in
      omega (arith, head, less, count, h.whole, ap length h.after, length-drop (h.its.len + d.size) s)

  mutual
    unfolding SaysElement Says size_of_element

    -- an element takes no fewer bytes than it is written in
    pub element_least : (e : Element) (s u : List ℕ) → Octets s → SaysElement strict t s e u → size_of_element e + length u ≤ length s
    element_least (value x v) s u byte d = datum_least s x v u byte d
    element_least (master x r) s u byte d =
        let n = d.0 in
        let h : Headed t s x n u = d.1 in
        let inside = run_least r (drop h.its.len s) u (octets_drop h.its.len s byte) d.3 in
        let left = ap length h.after ∙ length-drop (h.its.len + n) s in
        let less : size_of_run r ≤ n = omega (arith, inside, left, length-drop h.its.len s, h.whole) in
        omega (arith, header_least t s x (size_of_run r) n u byte h less, inside, length-drop h.its.len s, h.whole)

    -- nor does a run
    pub run_least : (r : Run) (s u : List ℕ) → Octets s → Says strict t s r u → size_of_run r + length u ≤ length s
    run_least none s u byte d = omega (arith, ap length d)
    run_least (then e r) s u byte d =
        let first = element_least e s d.0 byte d.1 in
        omega (arith, first, run_least r d.0 u (rest_octets e s d.0 byte d.1) d.2)

    -- and octets stand after it
    rest_octets : (e : Element) (s u : List ℕ) → Octets s → SaysElement strict t s e u → Octets u
    rest_octets (value x v) s u byte d = let h = d.headed in subst Octets (sym h.after) (octets_drop (h.its.len + d.size) s byte)
    rest_octets (master x r) s u byte d = let h = d.1 in subst Octets (sym h.after) (octets_drop (h.its.len + d.0) s byte)
