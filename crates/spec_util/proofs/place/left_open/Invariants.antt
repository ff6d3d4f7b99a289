-- `spec_util::place::left_open`. The invariant: each master above the first n closes. Assumes nothing.
use Prim.Native.Nat.{◌≤◌}
use mathlib.Core.List.{List}
use Rattle.table.specs.Table.{table_of}
use Rattle.spec_util.specs.Walk.{Shown}
use Rattle.spec_util.specs.declared.types.OpenTag.{OpenTag}
use Rattle.spec_util.proofs.Tops.{Left}
use Rattle.spec_util.proofs.place.left_open.Given as goal

abbrev pub invariant-loop-n : goal.invariant-loop-n
invariant-loop-n v =
    (v.n ≤ v.count) × ((l : List OpenTag) → Shown v.ids v.knowns v.count l → Left v.strict (table_of v.entries v.parts) v.id l v.count v.n)

abbrev pub decreases-loop-n : goal.decreases-loop-n
decreases-loop-n l = l.n
