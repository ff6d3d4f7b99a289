-- `tag_decoder::recovery::next_place`. The invariant: up to place i the search may end nowhere. Assumes nothing.
use Prim.Native.Nat.{◌-◌}
use Rattle.table.specs.Table.{table_of}
use Rattle.tag_decoder.specs.Passing.{PassedTo}
use Rattle.tag_decoder.proofs.recovery.next_place.Given as goal

abbrev pub invariant-loop-i : goal.invariant-loop-i
invariant-loop-i l = PassedTo (table_of l.entries l.parts) l.strict l.allow_ids l.input l.from l.i

abbrev pub decreases-loop-i : goal.decreases-loop-i
decreases-loop-i l = l.n - l.i
