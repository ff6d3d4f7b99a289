-- `decoder_decide::decide::settling`. The invariant: the first i words are the IDs of the first i parts. Assumes
-- nothing.
use Prim.Native.Nat.{◌≤◌, ◌-◌}
use mathlib.Core.Path.{◌≡◌}
use lib.ListN.{length}
use Rattle.spec_util.specs.Walk.{most_open}
use Rattle.table.specs.Table.{parts_of, parts_in}
use Rattle.decoder_decide.proofs.SettledView.{ImpliedIds}
use Rattle.decoder_decide.proofs.decide.settling.Given as goal

abbrev pub invariant-loop-i : goal.invariant-loop-i
invariant-loop-i l = (l.i ≤ l.count) × (length l.ids ≡ most_open) × ImpliedIds l.ids (parts_in (parts_of l.parts) l.path) l.i

abbrev pub decreases-loop-i : goal.decreases-loop-i
decreases-loop-i l = l.count - l.i
