-- What helpers' contracts use: the list item by item, as the loops go through it.
use Rattle.std.specs.Prelude.{ℕ, ◌-◌, Bool, true, ◌&&◌, List, [], ◌∷◌, ◌++◌, leb, length, take}
use Rattle.table.specs.Table.{Entry, data_type_of, is_master}
use Rattle.tag_writer.specs.Document.{payload, header_bytes, size_of_run}
use Rattle.tag_writer.specs.Items.{Mark, start, end, datum, value_at, run_of}
use Rattle.tag_writer.specs.Write.{reads_back, goes_in, is_of_kind, greatest_size}

-- what 43 asks of one mark, in open masters of these IDs, outermost first; a master's size is asked apart
unfoldable pub asked : List Entry → List ℕ → Mark → Bool
asked t opened (start x) = reads_back x && goes_in t opened x && is_master (data_type_of t x)
asked t opened (end x) = true
asked t opened (datum x v) = reads_back x && goes_in t opened x && is_of_kind (data_type_of t x) v && leb (length (payload v)) greatest_size

-- the open masters after it
abbrev pub opened_after : List ℕ → Mark → List ℕ
opened_after opened (start x) = opened ++ (x ∷ [])
opened_after opened (end x) = take (length opened - 1) opened
opened_after opened (datum x v) = opened

-- what 43 asks of each mark of a list, in the masters that are open there
unfoldable pub all_asked : List Entry → List ℕ → List Mark → Bool
all_asked t opened [] = true
all_asked t opened (m ∷ ms) = asked t opened m && all_asked t (opened_after opened m) ms

-- the bytes of a list: of a Start its header, with the size of the run that follows it
unfoldable pub marks_bytes : List Mark → List ℕ
marks_bytes [] = []
marks_bytes (start x ∷ ms) = header_bytes x (size_of_run (run_of ms)) ++ marks_bytes ms
marks_bytes (end x ∷ ms) = marks_bytes ms
marks_bytes (datum x v ∷ ms) = header_bytes x (length (payload v)) ++ (payload v ++ marks_bytes ms)

-- a value of an item with its header
abbrev pub datum_bytes : List ℕ → ℕ → ℕ → ℕ → ℕ → List ℕ
datum_bytes vals kind x offset n = header_bytes x (length (payload (value_at vals kind offset n))) ++ payload (value_at vals kind offset n)
