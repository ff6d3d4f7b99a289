-- Document 02, CR 2: what the writer answers and writes, and its refusals in their order.
use Rattle.std.specs.Prelude.{ℕ, ◌%◌, Bool, true, false, cond, ◌&&◌, ◌||◌, List, [], ◌∷◌, ◌++◌, map, leb, eqb, length, drop, Err, None, Ok, Result, ⊤}
use Rattle.utf8.specs.Rfc3629.{is_text}
use Rattle.table.specs.Check.{check_table}
use Rattle.table.specs.Table.{Entry, table_of, data_type_of, path_of, is_master, same_path}
use Rattle.table.specs.declared.types.PathPart.{PathPart}
use Rattle.table.specs.declared.types.PathPart.TheVariants.{Id, Global}
use Rattle.table.specs.declared.types.TagDataType.{TagDataType}
use Rattle.table.specs.declared.types.TagDataType.TheVariants as type
use Rattle.tag_parse.specs.Header.{read_tag_id}
use Rattle.tag_writer.specs.Document.{Value, unsigned, integer, text, binary, float, wrong, Element, value, master, Run, none, then, payload, id_bytes, size_of_run, run_bytes}
use Rattle.tag_writer.specs.Items.{marks_of, matched, run_of}
use Rattle.tag_writer.specs.declared.types.WriteError.TheVariants.{TableFails, TooManyItems, Unmatched, WrongItem, OutputTooShort}
use Rattle.tools.specs.declared.status.Status.{Status}
use Rattle.table.specs.declared.types.TableError.{TableError}
use Rattle.tag_writer.specs.declared.types.WriteError.{WriteError}
use Rattle.table.specs.declared.types.TableError.TheVariants as fault
use Rattle.tools.specs.declared.status.Status.TheVariants as status

-- ---- 43: "wrong place, kind or value"

-- whether what is read is the ID x, of n bytes
abbrev pub is_this_id : ℕ → ℕ → Status (ℕ × ℕ) → Bool
is_this_id x n (status.NeedMore missing) = false
is_this_id x n (status.Complete (y, m)) = eqb y x && eqb m n

-- whether the bytes of an ID read back as it
unfoldable pub reads_back : ℕ → Bool
reads_back x = is_this_id x (length (id_bytes x)) (read_tag_id (id_bytes x))

-- whether a path is "a single Global without bounds"
unfoldable pub anywhere : List PathPart → Bool
anywhere path = same_path path (Global None None ∷ [])

-- "An element goes only where its path of IDs says; one whose path is a single Global without bounds goes anywhere,
-- other paths nowhere." The IDs of the open masters stand outermost first
unfoldable pub goes_in : List Entry → List ℕ → ℕ → Bool
goes_in t opened x = anywhere (path_of t x) || same_path (path_of t x) (map Id opened)

-- the number of a type in the table; 6 where there is none
unfoldable pub type_word : TagDataType → ℕ
type_word type.Master = 0
type_word type.UnsignedInt = 1
type_word type.Integer = 2
type_word type.Utf8 = 3
type_word type.Binary = 4
type_word type.Float = 5
type_word type.Untyped = 6

-- whether a value is of the kind that the table gives its ID; text is UTF-8
unfoldable pub is_of_kind : TagDataType → Value → Bool
is_of_kind k (unsigned n) = eqb (type_word k) 1
is_of_kind k (integer z) = eqb (type_word k) 2
is_of_kind k (text s) = eqb (type_word k) 3 && is_text s
is_of_kind k (binary s) = eqb (type_word k) 4
is_of_kind k (float b) = eqb (type_word k) 5
is_of_kind k wrong = false

-- a greater size is refused: "a size over 4,000,000,000"
abbrev pub greatest_size : ℕ
greatest_size = 4_000_000_000

-- what 43 asks of an element, and of each of a run, in open masters of these IDs
unfoldable mutual
  pub good_element : List Entry → List ℕ → Element → Bool
  good_element t opened (value x v) =
      reads_back x && goes_in t opened x && is_of_kind (data_type_of t x) v && leb (length (payload v)) greatest_size
  good_element t opened (master x children) =
      reads_back x && goes_in t opened x && is_master (data_type_of t x) && leb (size_of_run children) greatest_size
      && good_run t (opened ++ (x ∷ [])) children

  pub good_run : List Entry → List ℕ → Run → Bool
  good_run t opened none = true
  good_run t opened (then e r) = good_element t opened e && good_run t opened r

-- whether the words are whole items, with none left over: a word left over is of no kind
abbrev pub whole_items : List ℕ → Bool
whole_items items = eqb (length items % 4) 0

-- ---- the writer

-- the most items that a list may have: "at most 512"
abbrev pub most_items : ℕ
most_items = 512

-- whether a table passes its check
abbrev pub is_passed : Result ⊤ TableError → Bool
is_passed (Err fault.BadShape) = false
is_passed (Ok _) = true
is_passed (Err (fault.Fault rule entry)) = false

-- the answer and the lent output after it, where es and ps are the lent table, items and vals what is to be written,
-- and out the lent output before; refused "in this order, nothing written"
unfoldable pub write : List ℕ → List ℕ → List ℕ → List ℕ → List ℕ → Result ℕ WriteError × List ℕ
write es ps items vals out =
    let ms = marks_of vals items in
    let r = run_of ms in
    cond (is_passed (check_table es ps))
    (cond (leb (length ms) most_items)
    (cond (matched [] ms)
    (cond (whole_items items && good_run (table_of es ps) [] r)
    (cond (leb (size_of_run r) (length out))
    (Ok (size_of_run r), run_bytes r ++ drop (size_of_run r) out)
    (Err OutputTooShort, out))
    (Err WrongItem, out))
    (Err Unmatched, out))
    (Err TooManyItems, out))
    (Err TableFails, out)
