-- `spec_util::walk::walk_along`. The invariant: no master passed has decided, and the counter counts at most those.
-- Assumes nothing.
use Prim.Native.Nat.{◌-◌, ◌≤◌}
use mathlib.Core.Path.{◌≡◌}
use lib.ListN.{drop}
use Rattle.table.specs.Table.{parts_of, parts_in, table_of}
use Rattle.spec_util.specs.Walk.{walk_from, masters_shown}
use Rattle.spec_util.proofs.walk.walk_along.Given as goal

abbrev pub invariant-loop-i : goal.invariant-loop-i
invariant-loop-i l =
    (l.i ≤ l.count)
    × (l.counter ≤ l.i)
    × (walk_from l.strict (table_of l.entries l.parts) (parts_in (parts_of l.parts) l.path) l.id 0 0 (masters_shown l.ids l.knowns l.n)
    ≡ walk_from l.strict (table_of l.entries l.parts) (parts_in (parts_of l.parts) l.path) l.id l.marker l.counter (drop l.i (masters_shown l.ids l.knowns l.n)))

abbrev pub decreases-loop-i : goal.decreases-loop-i
decreases-loop-i l = l.count - l.i
