-- An EBML document as elements in elements, its bytes and its sizes. Document 02, CR 2: "The size of a master is the
-- sum of its children's sizes, and a child may be a master again. Sizes and numbers are as short as `as_vint` and the
-- types allow (0 takes no byte); floats take 8 bytes."
use Rattle.std.specs.Prelude.{ℕ, zero, suc, ◌+◌, ◌-◌, ◌*◌, ◌^◌, List, [], ◌++◌, ltb, ℤ, pos, negsuc, length}
use Rattle.std.specs.Int.Signed.{mag}
use Rattle.tools.specs.Bytes.{be_bytes}
use Rattle.tools.specs.Twos.{bits_of}
use Rattle.tools.specs.Vint.{least_from, vint_width, vint_bytes}

-- ---- what a document says

-- a value; `wrong` is what no value is: a number that is not of 8 bytes, a range outside the buffer, an item of no kind
pub data Value : Type 0 where
  unsigned : ℕ → Value
  integer : ℤ → Value
  text : List ℕ → Value
  binary : List ℕ → Value
  float : ℕ → Value
  wrong : Value

-- one element with its ID: a value, or a master with the run of its children; a run: elements one after the other
mutual
  pub data Element : Type 0 where
    value : ℕ → Value → Element
    master : ℕ → Run → Element

  pub data Run : Type 0 where
    none : Run
    then : Element → Run → Run

-- ---- payloads: "numbers are as short as .. the types allow (0 takes no byte); floats take 8 bytes"

-- the least k of 0 to 7 with v below 2 ^ (8 k), else 8
abbrev pub unsigned_width : ℕ → ℕ
unsigned_width v = least_from (λ k. ltb v (2 ^ (8 * k))) 8 0

-- the least k of 1 to 7 whose 8 k bits hold the number in two's complement, else 8
abbrev pub integer_width : ℤ → ℕ
integer_width z = least_from (λ k. ltb (mag z) (2 ^ (8 * k - 1))) 7 1

-- a signed number in two's complement of so many bytes; "0 takes no byte"
unfoldable pub integer_bytes : ℤ → List ℕ
integer_bytes (pos zero) = []
integer_bytes (pos (suc n)) = be_bytes (integer_width (pos (suc n))) (suc n)
integer_bytes (negsuc n) = be_bytes (integer_width (negsuc n)) (bits_of (8 * integer_width (negsuc n)) (negsuc n))

-- the payload of a value
unfoldable pub payload : Value → List ℕ
payload (unsigned n) = be_bytes (unsigned_width n) n
payload (integer z) = integer_bytes z
payload (text s) = s
payload (binary s) = s
payload (float b) = be_bytes 8 b
payload wrong = []

-- ---- headers

-- the least k of 1 to 7 with x below 2 ^ (8 k), else 8: of an Element ID, its length
abbrev pub id_width : ℕ → ℕ
id_width x = least_from (λ k. ltb x (2 ^ (8 * k))) 7 1

-- the bytes of an ID, its marker among them
unfoldable pub id_bytes : ℕ → List ℕ
id_bytes x = be_bytes (id_width x) x

-- the ID and the size as `as_vint` writes it
unfoldable pub header_bytes : ℕ → ℕ → List ℕ
header_bytes x n = id_bytes x ++ vint_bytes (vint_width n) n

-- ---- sizes and bytes

-- how many bytes an element has, header and all, and a run: "The size of a master is the sum of its children's sizes,
-- and a child may be a master again"
unfoldable mutual
  pub size_of_element : Element → ℕ
  size_of_element (value x v) = length (header_bytes x (length (payload v))) + length (payload v)
  size_of_element (master x children) = length (header_bytes x (size_of_run children)) + size_of_run children

  pub size_of_run : Run → ℕ
  size_of_run none = 0
  size_of_run (then e r) = size_of_element e + size_of_run r

-- the bytes of an element, its header and what is in it, and of a run
unfoldable mutual
  pub element_bytes : Element → List ℕ
  element_bytes (value x v) = header_bytes x (length (payload v)) ++ payload v
  element_bytes (master x children) = header_bytes x (size_of_run children) ++ run_bytes children

  pub run_bytes : Run → List ℕ
  run_bytes none = []
  run_bytes (then e r) = element_bytes e ++ run_bytes r
