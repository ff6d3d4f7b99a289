-- The list that is handed over, and the document that it says.
use Rattle.std.specs.Prelude.{ℕ, ◌+◌, Bool, true, false, cond, ◌&&◌, List, [], ◌∷◌, ◌++◌, leb, eqb, length, take, drop}
use Rattle.tools.specs.Bytes.{be_number}
use Rattle.tools.specs.Twos.{signed_of}
use Rattle.table.specs.Table.{fours}
use Rattle.tag_writer.specs.Document.{Value, unsigned, integer, text, binary, float, wrong, Element, value, master, Run, none, then}

-- ---- marks

-- one of "Starts, Ends and values", with its ID
pub data Mark : Type 0 where
  start : ℕ → Mark
  end : ℕ → Mark
  datum : ℕ → Value → Mark

-- the bytes of a value in the second lent buffer
abbrev pub raw_at : List ℕ → ℕ → ℕ → List ℕ
raw_at vals offset n = take n (drop offset vals)

-- a number's value where its bytes are 8: "numbers and floats as 8, big-endian"
abbrev pub of_eight : List ℕ → Value → Value
of_eight raw v = cond (eqb (length raw) 8) v wrong

-- the value that bytes say for a type of the table: 1 Unsigned, 2 Integer, 3 Utf8, 4 Binary, 5 Float
unfoldable pub value_of : ℕ → List ℕ → Value
value_of kind raw =
    cond (eqb kind 1) (of_eight raw (unsigned (be_number raw)))
    (cond (eqb kind 2) (of_eight raw (integer (signed_of 64 (be_number raw))))
    (cond (eqb kind 3) (text raw)
    (cond (eqb kind 4) (binary raw)
    (cond (eqb kind 5) (of_eight raw (float (be_number raw))) wrong))))

-- the value of a type that stands at a range of the second lent buffer; "a range outside the buffer" is none
unfoldable pub value_at : List ℕ → ℕ → ℕ → ℕ → Value
value_at vals kind offset n = cond (leb (offset + n) (length vals)) (value_of kind (raw_at vals offset n)) wrong

-- what an item of 4 words says: 0 for a Start, 1 to 5 for a value of that type, 6 for an End; its ID; of a value, where
-- its bytes begin and how many there are
unfoldable pub mark_of : List ℕ → ℕ → ℕ → ℕ → ℕ → Mark
mark_of vals kind x offset n = cond (eqb kind 0) (start x) (cond (eqb kind 6) (end x) (datum x (value_at vals kind offset n)))

-- what the items say, in order; words left over say nothing here
unfoldable pub marks_of : List ℕ → List ℕ → List Mark
marks_of vals items = fours (mark_of vals) items

-- ---- 42: "unmatched Start or End"

-- whether each End closes the last Start still open and names its ID, and at the end no Start is open; the IDs of the
-- open Starts stand innermost first
unfoldable pub matched : List ℕ → List Mark → Bool
matched [] [] = true
matched (y ∷ ys) [] = false
matched ys (start x ∷ ms) = matched (x ∷ ys) ms
matched [] (end x ∷ ms) = false
matched (y ∷ ys) (end x ∷ ms) = eqb x y && matched ys ms
matched ys (datum x v ∷ ms) = matched ys ms

-- ---- the document

-- what stands from a mark on: the run up to the End of the master that it is in, and so on outwards
pub data Levels : Type 0 where
  outermost : Run → Levels
  inside : Run → Levels → Levels

-- one element more in front
abbrev pub before : Element → Levels → Levels
before e (outermost r) = outermost (then e r)
before e (inside r ls) = inside (then e r) ls

-- a Start in front: the run becomes its children
abbrev pub begun : ℕ → Levels → Levels
begun x (outermost r) = outermost (then (master x r) none)
begun x (inside r ls) = before (master x r) ls

-- the levels of a list, made from its last mark on
unfoldable pub levels : List Mark → Levels
levels [] = outermost none
levels (start x ∷ ms) = begun x (levels ms)
levels (end x ∷ ms) = inside none (levels ms)
levels (datum x v ∷ ms) = before (value x v) (levels ms)

-- the first of these runs
abbrev pub innermost : Levels → Run
innermost (outermost r) = r
innermost (inside r ls) = r

-- the elements that a matched list says
abbrev pub run_of : List Mark → Run
run_of ms = innermost (levels ms)

-- the marks of an element and of a run, in order
unfoldable mutual
  pub element_marks : Element → List Mark
  element_marks (value x v) = datum x v ∷ []
  element_marks (master x r) = start x ∷ (run_marks r ++ (end x ∷ []))

  pub run_marks : Run → List Mark
  run_marks none = []
  run_marks (then e r) = element_marks e ++ run_marks r
