-- `tag_decoder::recovery::end_of_search`. The invariant: the search from place i on, with the record moved there, ends
-- where the whole search does. Assumes nothing.
use Prim.Native.Nat.{◌-◌}
use Rattle.table.specs.Table.{table_of}
use Rattle.tag_decoder.proofs.Recovering.{Searched}
use Rattle.tag_decoder.proofs.recovery.end_of_search.Given as goal

abbrev pub invariant-loop-i : goal.invariant-loop-i
invariant-loop-i l = Searched l.parts (table_of l.entries l.parts) l.initial.e l.input l.e l.i

abbrev pub decreases-loop-i : goal.decreases-loop-i
decreases-loop-i l = l.n - l.i
