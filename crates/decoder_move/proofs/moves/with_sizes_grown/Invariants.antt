-- `decoder_move::moves::with_sizes_grown`. The invariant: the first i masters have grown, and all else is as it was.
-- Assumes nothing.
use Prim.Native.Nat.{◌≤◌, ◌-◌}
use mathlib.Core.Path.{◌≡◌}
use lib.ListN.{length}
use Rattle.spec_util.specs.Walk.{most_open}
use Rattle.decoder_rules.specs.Record.{with_open, size_grown}
use Rattle.basics.proofs.ArrayOf32.{changed}
use Rattle.decoder_move.proofs.moves.with_sizes_grown.Given as goal

abbrev pub invariant-loop-i : goal.invariant-loop-i
invariant-loop-i l = (l.i ≤ l.count) × (length l.initial.d.«open» ≡ most_open) × (l.d ≡ with_open l.initial.d (changed (size_grown l.n) l.i l.initial.d.«open») l.count)

abbrev pub decreases-loop-i : goal.decreases-loop-i
decreases-loop-i l = l.count - l.i
