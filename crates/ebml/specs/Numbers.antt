-- Document 01, "Numbers": "The gateway is C and calls these routines directly." The result number and the lent bytes of
-- each answer.
use Rattle.std.specs.Prelude.{ℕ, ◌+◌, Bool, cond, List, ◌++◌, ltb, ℤ, length, drop, Err, Ok, Result}
use Rattle.tools.specs.Bytes.{be_bytes}
use Rattle.tools.specs.Refusals.{number_and_place}
use Rattle.tools.specs.Twos.{bits_of}
use Rattle.tools.specs.declared.errors.ToolError.{ToolError}
use Rattle.tools.specs.declared.errors.ToolError.TheVariants.{OutputTooShort}
use Rattle.tools.specs.declared.status.Status.{Status}
use Rattle.tools.specs.declared.status.Status.TheVariants as status

-- "A refusal gives 256 plus its number"
abbrev pub refusal_of : ToolError → ℕ
refusal_of e = 256 + (number_and_place e).number

-- "puts its value big-endian into the first 8 lent bytes", and answers the result; 5 where fewer are lent
abbrev pub value_out : ℕ → ℕ → List ℕ → ℕ × List ℕ
value_out result v out = cond (ltb (length out) 8) (refusal_of OutputTooShort, out) (result, be_bytes 8 v ++ drop 8 out)

-- a signed value is two's complement in those 64 bits
abbrev pub signed_out : ℕ → ℤ → List ℕ → ℕ × List ℕ
signed_out result z out = value_out result (bits_of 64 z) out

-- document 02, CR 1: "there need-more n is 512 + n"
abbrev pub need_more_of : ℕ → ℕ
need_more_of missing = 512 + missing

-- "the result is the vint's length"; a refusal "and need-more write nothing"
abbrev pub read_out : Result (Status (ℕ × ℕ)) ToolError → List ℕ → ℕ × List ℕ
read_out (Ok (status.NeedMore missing)) out = (need_more_of missing, out)
read_out (Err e) out = (refusal_of e, out)
read_out (Ok (status.Complete (v, L))) out = value_out L v out

-- the same of a signed vint
abbrev pub read_signed_out : Result (Status (ℤ × ℕ)) ToolError → List ℕ → ℕ × List ℕ
read_signed_out (Ok (status.NeedMore missing)) out = (need_more_of missing, out)
read_signed_out (Err e) out = (refusal_of e, out)
read_signed_out (Ok (status.Complete (z, L))) out = signed_out L z out

-- "A vint written gives its length"
abbrev pub code_of : Result ℕ ToolError → ℕ
code_of (Ok n) = n
code_of (Err e) = refusal_of e

-- what a writer answered, with the bytes that it left
abbrev pub written_out : Result ℕ ToolError × List ℕ → ℕ × List ℕ
written_out p = (code_of p.0, p.1)

-- "`is_vint` gives 1 or 0"; so does `is_element_id`
abbrev pub yes_no : Bool → ℕ
yes_no b = cond b 1 0

-- "and 8 for a conversion"
abbrev pub unsigned_out : Result ℕ ToolError → List ℕ → ℕ × List ℕ
unsigned_out (Ok v) out = value_out 8 v out
unsigned_out (Err e) out = (refusal_of e, out)

-- the same of a signed number
abbrev pub integer_out : Result ℤ ToolError → List ℕ → ℕ × List ℕ
integer_out (Ok z) out = signed_out 8 z out
integer_out (Err e) out = (refusal_of e, out)

-- the same of a float's 64 bits
abbrev pub float_out : Result ℕ ToolError → List ℕ → ℕ × List ℕ
float_out (Ok v) out = value_out 8 v out
float_out (Err e) out = (refusal_of e, out)

-- ---- what a helper's contract uses

-- the result where the value was handed to the lent bytes
abbrev pub result_of : ℕ → Result ℕ ToolError → ℕ
result_of result (Ok n) = result
result_of result (Err e) = refusal_of e
