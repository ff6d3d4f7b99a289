-- `tag_writer::asking::all_asked`. The invariant: what is left is matched in the Starts on the stack, and asks what all
-- asks. Assumes nothing.
use Prim.Native.Nat.{◌/◌, ◌≤◌}
use mathlib.Core.Path.{◌≡◌}
use mathlib.Core.Bool.{true}
use mathlib.Core.List.{[]}
use lib.ListN.{length, take, drop}
use Rattle.table.specs.Table.{table_of}
use Rattle.tag_writer.specs.Flat.{all_asked}
use Rattle.tag_writer.specs.Items.{marks_of, matched}
use Rattle.tag_writer.proofs.MatchLaws.{top_down}
use Rattle.tag_writer.proofs.asking.all_asked.Given as goal

abbrev pub invariant-loop-i : goal.invariant-loop-i
invariant-loop-i l =
    (l.i ≤ length l.items / 4) × (l.depth ≤ l.i) × (length l.open ≡ 512) × (matched (top_down l.open l.depth) (drop l.i (marks_of l.values l.items)) ≡ true)
    × (all_asked (table_of l.entries l.parts) [] (marks_of l.values l.items) ≡ all_asked (table_of l.entries l.parts) (take l.depth l.open) (drop l.i (marks_of l.values l.items)))
