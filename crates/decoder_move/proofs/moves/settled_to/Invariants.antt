-- `decoder_move::moves::settled_to`. The invariant: the first i parts of the path stand in their places, and the other
-- places are empty. Assumes nothing.
use Prim.Native.Nat.{◌≤◌, ◌-◌}
use mathlib.Core.Path.{◌≡◌}
use mathlib.Core.List.{map}
use lib.ListN.{take}
use Rattle.table.specs.Table.{parts_of, parts_in}
use Rattle.spec_util.specs.Walk.{no_tag}
use Rattle.basics.specs.Lists.{filled}
use Rattle.decoder_rules.specs.Record.{implied, with_open}
use Rattle.decoder_move.proofs.moves.settled_to.Given as goal

abbrev pub invariant-loop-i : goal.invariant-loop-i
invariant-loop-i l = (l.i ≤ l.count) × (l.d ≡ with_open l.initial.d (filled no_tag (map implied (take l.i (parts_in (parts_of l.parts) l.path)))) l.count)

abbrev pub decreases-loop-i : goal.decreases-loop-i
decreases-loop-i l = l.count - l.i
