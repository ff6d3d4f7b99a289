-- `table::parts::same_path`. The invariant: the parts passed are equal in pairs, so the rests decide. Assumes nothing.
use mathlib.Core.Path.{◌≡◌}
use lib.ListN.{drop}
use Rattle.table.specs.Table.{parts_of, parts_in, same_path}
use Rattle.table.proofs.parts.same_path.Given as goal

abbrev pub invariant-loop-i : goal.invariant-loop-i
invariant-loop-i l =
    same_path (parts_in (parts_of l.parts) l.a) (parts_in (parts_of l.parts) l.b)
    ≡ same_path (drop l.i (parts_in (parts_of l.parts) l.a)) (drop l.i (parts_in (parts_of l.parts) l.b))
