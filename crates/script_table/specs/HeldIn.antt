-- What the calls on the lent table keep. Assumes nothing.
use Rattle.std.specs.Prelude.{ℕ, ◌≡◌, ◌≤◌, List, length, take}
use Rattle.table.specs.Shape.{good_shape}
use Rattle.script_table.specs.declared.lending.LentTable.{LentTable}

-- the table's words are within the lent ones
abbrev pub HeldIn : LentTable → List ℕ → List ℕ → Type 0
HeldIn t entries parts = (t.entries ≤ length entries) × (t.parts ≤ length parts)

-- it says of the table's words whether their shape is good
abbrev pub ShapeTold : LentTable → List ℕ → List ℕ → Type 0
ShapeTold t entries parts = t.is_good ≡ good_shape (take t.entries entries) (take t.parts parts)
