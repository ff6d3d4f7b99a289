-- Document 01, "One call of the decoder", step 11, what a payload is: "An empty number is 0, an empty float 0.0." No
-- payload of an element is an integer of over 8 bytes (document 02, CR 8), so that `value_of` has no refusal for it;
-- `read_data` is of any bytes, and has.
use Rattle.std.specs.Prelude.{ℕ, ◌+◌, Bool, true, false, cond, List, eqb, length, take, Err, Ok, Result}
use Rattle.basics.specs.Lists.{first_index}
use Rattle.tools.specs.Bytes.{be_number}
use Rattle.tools.specs.Integer.{integer_of, arr_to_u64, arr_to_i64}
use Rattle.tools.specs.Float.{arr_to_f64}
use Rattle.utf8.specs.Rfc3629.{is_text}
use Rattle.table.specs.declared.types.TagDataType.{TagDataType}
use Rattle.table.specs.declared.types.TagDataType.TheVariants as type
use Rattle.tag_parse.specs.declared.types.ParseError.TheVariants.{FromUtf8Error, ReadF64Mismatch}
use Rattle.tag_parse.specs.declared.types.Range.{Range}
use Rattle.tag_parse.specs.declared.types.TagValue.TheVariants.{UnsignedInt, Integer, Utf8, Binary, Float, Raw}
use Rattle.tag_parse.specs.declared.types.DataError.{DataError}
use Rattle.tag_parse.specs.declared.types.ParseError.{ParseError}
use Rattle.tag_parse.specs.declared.types.TagValue.{TagValue}
use Rattle.tools.specs.declared.errors.ToolError.{ToolError}
use Rattle.tag_parse.specs.declared.types.DataError.TheVariants as problem
use lib.IntN.{ℤ}

-- ---- an element's payload

-- types 1 and 2
abbrev pub is_integer : TagDataType → Bool
is_integer type.UnsignedInt = true
is_integer type.Integer = true
is_integer type.Utf8 = false
is_integer type.Binary = false
is_integer type.Float = false
is_integer type.Master = false
is_integer type.Untyped = false

-- a text at a range of the stream; "text not UTF-8 by RFC 3629": 20
abbrev pub text_of : List ℕ → Range → Result TagValue ParseError
text_of s range = cond (is_text s) (Ok (Utf8 range)) (Err FromUtf8Error)

-- how many bytes come before the first zero byte; all, where there is none
abbrev pub before_zero : List ℕ → ℕ
before_zero s = first_index (λ b. eqb b 0) s

-- the text of a payload: as ported all of it; strictly, document 02, CR 11, it ends "at its first zero byte, the rest
-- unchecked"
abbrev pub text_value : Bool → List ℕ → Range → Result TagValue ParseError
text_value strict s range =
    cond strict (text_of (take (before_zero s) s) (record { begin = range.begin; end = range.begin + before_zero s })) (text_of s range)

-- "float of 1 to 3 or 5 to 7 bytes": 21
abbrev pub float_or21 : Result ℕ ToolError → Result TagValue ParseError
float_or21 (Ok b) = Ok (Float b)
float_or21 (Err e) = Err ReadF64Mismatch

-- the value of a float's payload; an empty one is 0.0
abbrev pub float_value : List ℕ → Result TagValue ParseError
float_value s = cond (eqb (length s) 0) (Ok (Float 0)) (float_or21 (arr_to_f64 s))

-- a payload of a type, which lies at a range of the stream, strictly or as ported; raw where there is no type
unfoldable pub value_of : Bool → TagDataType → List ℕ → Range → Result TagValue ParseError
value_of strict type.UnsignedInt s range = Ok (UnsignedInt (be_number s))
value_of strict type.Integer s range = Ok (Integer (integer_of s))
value_of strict type.Utf8 s range = text_value strict s range
value_of strict type.Binary s range = Ok (Binary range)
value_of strict type.Float s range = float_value s
value_of strict type.Master s range = Ok (Raw range)
value_of strict type.Untyped s range = Ok (Raw range)

-- ---- any bytes

-- the same answer, where it is no number's refusal
abbrev pub data_of : Result TagValue ParseError → Result TagValue DataError
data_of (Ok v) = Ok v
data_of (Err e) = Err (problem.Parse e)

-- an unsigned number, or the number routine's refusal 6
abbrev pub unsigned_data : Result ℕ ToolError → Result TagValue DataError
unsigned_data (Ok v) = Ok (UnsignedInt v)
unsigned_data (Err e) = Err (problem.Number e)

-- the same of a signed number
abbrev pub integer_data : Result ℤ ToolError → Result TagValue DataError
integer_data (Ok v) = Ok (Integer v)
integer_data (Err e) = Err (problem.Number e)

-- any bytes as a payload of a type
unfoldable pub read_data : TagDataType → List ℕ → Range → Result TagValue DataError
read_data type.UnsignedInt s range = unsigned_data (arr_to_u64 s)
read_data type.Integer s range = integer_data (arr_to_i64 s)
read_data type.Utf8 s range = data_of (text_of s range)
read_data type.Binary s range = Ok (Binary range)
read_data type.Float s range = data_of (float_value s)
read_data type.Master s range = Ok (Raw range)
read_data type.Untyped s range = Ok (Raw range)
