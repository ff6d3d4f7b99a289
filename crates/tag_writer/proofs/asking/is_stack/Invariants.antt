-- `tag_writer::asking::is_stack`. The invariant: the parts passed are the IDs passed, so the rests decide. Assumes
-- nothing.
use Prim.Native.Nat.{◌≤◌}
use mathlib.Core.Path.{◌≡◌}
use mathlib.Core.List.{map}
use lib.ListN.{take, drop}
use Rattle.table.specs.Table.{parts_of, parts_in, same_path}
use Rattle.table.specs.declared.types.PathPart.TheVariants.{Id}
use Rattle.tag_writer.proofs.asking.is_stack.Given as goal

abbrev pub invariant-loop-i : goal.invariant-loop-i
invariant-loop-i l =
    (l.i ≤ l.depth) × (same_path (parts_in (parts_of l.parts) l.path) (map Id (take l.depth l.ids)) ≡ same_path (drop l.i (parts_in (parts_of l.parts) l.path)) (drop l.i (map Id (take l.depth l.ids))))
