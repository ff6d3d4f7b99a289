-- `tag_writer::writing::put_items`. The invariant: the output is the document up to the item that comes next, and what
-- was there before after it. Assumes nothing.
use Prim.Native.Nat.{◌/◌, ◌≤◌}
use lib.ListN.{length, drop}
use Rattle.tag_writer.specs.Flat.{marks_bytes}
use Rattle.tag_writer.specs.Items.{marks_of}
use Rattle.tag_writer.proofs.PutLaws.{PutSo, Closes}
use Rattle.tag_writer.proofs.writing.put_items.Given as goal

abbrev pub invariant-loop-i : goal.invariant-loop-i
invariant-loop-i l =
    (l.i ≤ length l.items / 4) × Closes (marks_of l.values l.items) l.i
    × PutSo (marks_bytes (marks_of l.values l.items)) l.initial.out (marks_bytes (drop l.i (marks_of l.values l.items))) l.at l.out
