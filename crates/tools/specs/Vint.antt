-- Variable-size integers: RFC 8794, section 4, and document 01, "Numbers", over the width L.
use Rattle.std.specs.Prelude.{ℕ, zero, suc, ◌+◌, ◌-◌, ◌*◌, ◌%◌, ◌^◌, ◌≤◌, ◌<◌, Bool, true, false, cond, ◌≡◌, List, ◌∷◌, ◌++◌, leb, ltb, eqb, length, get_or, take, drop, Err, Ok, Result}
use Rattle.std.specs.Int.Count.{count_leading_zeros}
use Rattle.basics.specs.Lists.{ProperPrefix}
use Rattle.tools.specs.Bytes.{Octets, be_number, be_bytes}
use Rattle.tools.specs.declared.errors.ToolError.TheVariants.{ReadVintOverflow, WriteVintOverflow, WidthMismatch, OutputTooShort}
use Rattle.tools.specs.declared.status.Status.{Status}
use Rattle.tools.specs.declared.errors.ToolError.{ToolError}
use Rattle.tools.specs.declared.status.Status.TheVariants as status

-- RFC 8794, section 4: VINT_WIDTH zero bits, the bit VINT_MARKER, and VINT_DATA of 7 bits to an octet. So the octets of
-- a VINT of L octets with the value v are those whose big-endian number is 2 ^ (7 L) + v, where v is below 2 ^ (7 L).
pub record IsVint (L v : ℕ) (octets : List ℕ) : Type 0 where
  pub at_least_1 : 1 ≤ L
  pub at_most_8 : L ≤ 8
  pub count : length octets ≡ L
  pub bytes : Octets octets
  pub marked : be_number octets ≡ 2 ^ (7 * L) + v
  pub below : v < 2 ^ (7 * L)

-- octets of a VINT stand at the front of s, and are all there
pub record Front (L v : ℕ) (s : List ℕ) : Type 0 where
  pub whole : L ≤ length s
  pub vint : IsVint L v (take L s)

-- s is less than the octets of a VINT, from the first on: a proper prefix of them, the empty list too
pub record VintPart (s : List ℕ) : Type 0 where
  pub L : ℕ
  pub v : ℕ
  pub octets : List ℕ
  pub vint : IsVint L v octets
  pub part : ProperPrefix s octets

-- section 6: a data size whose data bits are all ones is reserved for an unknown size
abbrev pub all_ones : ℕ → ℕ → Bool
all_ones L v = eqb v (2 ^ (7 * L) - 1)

-- ---- reading

-- "Length is 1 plus the first byte's leading zeros"
abbrev pub vint_length : ℕ → ℕ
vint_length first = count_leading_zeros 8 first + 1

-- "the value is the rest of the bits, big-endian": the number of the L bytes less the marker
abbrev pub vint_value : ℕ → List ℕ → ℕ
vint_value L octets = be_number octets - 2 ^ (7 * L)

-- document 02, CR 1: "its length less the bytes present"
abbrev pub less_present : ℕ → List ℕ → ℕ
less_present L s = L - length s

-- document 02, CR 1: "1 if there are none"
abbrev pub missing_of_none : ℕ
missing_of_none = 1

-- a vint of L bytes at the front of s, which needs more where s is shorter
abbrev pub vint_at : ℕ → List ℕ → Result (Status (ℕ × ℕ)) ToolError
vint_at L s = cond (ltb (length s) L) (Ok (status.NeedMore (less_present L s))) (Ok (status.Complete (vint_value L (take L s), L)))

-- "no byte, or fewer than its length: need more. First byte 0: refusal 1"
unfoldable pub read_vint : List ℕ → Result (Status (ℕ × ℕ)) ToolError
read_vint s =
    cond (eqb (length s) 0) (Ok (status.NeedMore missing_of_none))
    (cond (eqb (get_or s 0 0) 0) (Err ReadVintOverflow)
    (vint_at (vint_length (get_or s 0 0)) s))

-- the answer asks for more bytes
abbrev pub vint_needs_more : Result (Status (ℕ × ℕ)) ToolError → Bool
vint_needs_more (Ok (status.NeedMore missing)) = true
vint_needs_more (Err e) = false
vint_needs_more (Ok (status.Complete (v, L))) = false

-- how many bytes it asks for, at least: 0 where it asks for none
abbrev pub vint_missing : Result (Status (ℕ × ℕ)) ToolError → ℕ
vint_missing (Ok (status.NeedMore missing)) = missing
vint_missing (Err e) = 0
vint_missing (Ok (status.Complete (v, L))) = 0

-- "First byte 0"
abbrev pub FirstByte0 : List ℕ → Type 0
FirstByte0 s = (rest : List ℕ) × (s ≡ 0 ∷ rest)

-- ---- writing

-- the L bytes of the vint of v
abbrev pub vint_bytes : ℕ → ℕ → List ℕ
vint_bytes L v = be_bytes L (2 ^ (7 * L) + v)

-- the first of the n numbers from L on that passes the test, else L + n
unfoldable pub least_from : (ℕ → Bool) → ℕ → ℕ → ℕ
least_from test zero L = L
least_from test (suc n) L = cond (test L) L (least_from test n (L + 1))

-- w is the first from L on, below top, that passes, or else top
pub record Least (test : ℕ → Bool) (L top w : ℕ) : Type 0 where
  pub lo : L ≤ w
  pub hi : w ≤ top
  pub passes : w < top → test w ≡ true
  pub none : (k : ℕ) → L ≤ k → k < w → test k ≡ false

-- the least L of 1 to 7 with m below 2 ^ (7 L - less), else 8
abbrev pub width_for : ℕ → ℕ → ℕ
width_for less m = least_from (λ L. ltb m (2 ^ (7 * L - less))) 7 1

-- "least L of 1 to 7 with value < 2^(7L)−1, else 8"
abbrev pub vint_width : ℕ → ℕ
vint_width v = least_from (λ L. ltb v (2 ^ (7 * L) - 1)) 7 1

-- the refusals in their order: 4 the width, 2 the value, 5 the lent output; else L bytes at its front, and no other
-- byte
unfoldable pub as_vint_with_length : ℕ → ℕ → List ℕ → Result ℕ ToolError × List ℕ
as_vint_with_length v L out =
    cond (eqb L 0) (Err WidthMismatch, out)
    (cond (ltb 8 L) (Err WidthMismatch, out)
    (cond (leb (2 ^ (7 * L)) v) (Err WriteVintOverflow, out)
    (cond (ltb (length out) L) (Err OutputTooShort, out)
    (Ok L, vint_bytes L v ++ drop L out))))

-- no vint holds this value or a greater one: 8 bytes have 56 bits of data
abbrev pub vint_limit : ℕ
vint_limit = 2 ^ 56

-- "2^56 and above: refusal 2"; else the least width
unfoldable pub as_vint : ℕ → List ℕ → Result ℕ ToolError × List ℕ
as_vint v out =
    cond (leb vint_limit v) (Err WriteVintOverflow, out) (as_vint_with_length v (vint_width v) out)

-- ---- what looks like an ID

-- "not 0, and the highest set bit's number divides by 7"
unfoldable pub is_vint : ℕ → Bool
is_vint v = cond (eqb v 0) false (eqb ((63 - count_leading_zeros 64 v) % 7) 0)

-- bit 7 k is the highest set one
pub record MarkerAt (v k : ℕ) : Type 0 where
  pub lo : 2 ^ (7 * k) ≤ v
  pub hi : v < 2 ^ (7 * k) * 2
