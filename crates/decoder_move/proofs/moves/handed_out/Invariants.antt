-- `decoder_move::moves::handed_out`. The invariant: the first i places hold the Ends after them, and all else is as it
-- was. Assumes nothing.
use Prim.Native.Nat.{◌≤◌, ◌-◌}
use mathlib.Core.Path.{◌≡◌}
use lib.ListN.{length}
use Rattle.spec_util.specs.Walk.{most_open}
use Rattle.decoder_rules.specs.Record.{with_waiting}
use Rattle.basics.proofs.ArrayOf32.{moved}
use Rattle.decoder_move.proofs.moves.handed_out.Given as goal

abbrev pub invariant-loop-i : goal.invariant-loop-i
invariant-loop-i l = (l.i ≤ most_open - 1) × (length l.initial.d.waiting ≡ most_open) × (l.d ≡ with_waiting l.initial.d (moved l.i l.initial.d.waiting) l.initial.d.waiting_count)

abbrev pub decreases-loop-i : goal.decreases-loop-i
decreases-loop-i l = most_open - 1 - l.i
