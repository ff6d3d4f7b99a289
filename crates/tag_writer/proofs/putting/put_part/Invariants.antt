-- `tag_writer::putting::put_part`. The invariant: the first i bytes are put. Assumes nothing.
use Prim.Native.Nat.{◌≤◌}
use mathlib.Core.Path.{◌≡◌}
use lib.ListN.{take, drop}
use lib.Seq.{paste}
use Rattle.tag_writer.proofs.putting.put_part.Given as goal

abbrev pub invariant-loop-i : goal.invariant-loop-i
invariant-loop-i l = (l.i ≤ l.n) × (l.out ≡ paste l.initial.out l.at (take l.n (drop l.from l.values)) l.i)
