-- Document 01, "The bench table and its records": that table as lent words.
use Rattle.std.specs.Prelude.{ℕ, List, [], ◌∷◌}
use Rattle.table.specs.Table.{Entry, table_of}

-- "Session 4E01 Master, root. Feed A1 Master, in Session. In Feed: Amount A2 Unsigned, Unit A3 Utf8, Blob A4 Binary,
-- Shift A5 Integer, Rate A6 Float. Void EC Binary, path one Global with neither bound."
abbrev pub bench_entries : List ℕ
bench_entries =
    0x4E01 ∷ 0 ∷ 0 ∷ 0
    ∷ 0xA1 ∷ 0 ∷ 0 ∷ 1
    ∷ 0xA2 ∷ 1 ∷ 0 ∷ 2
    ∷ 0xA3 ∷ 3 ∷ 0 ∷ 2
    ∷ 0xA4 ∷ 4 ∷ 0 ∷ 2
    ∷ 0xA5 ∷ 2 ∷ 0 ∷ 2
    ∷ 0xA6 ∷ 5 ∷ 0 ∷ 2
    ∷ 0xEC ∷ 4 ∷ 2 ∷ 1
    ∷ []

-- Session, then Feed: the path of what stands in Feed, and the first of it the path of Feed; then the Global
abbrev pub bench_parts : List ℕ
bench_parts =
    0 ∷ 0x4E01 ∷ 0
    ∷ 0 ∷ 0xA1 ∷ 0
    ∷ 1 ∷ 0 ∷ 0
    ∷ []

-- the table that these words are
abbrev pub bench : List Entry
bench = table_of bench_entries bench_parts
