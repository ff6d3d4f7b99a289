-- Up to i there are whole characters, so what is left decides.
use Rattle.std.proofs.Common.{◌-◌, length}
use Rattle.utf8.specs.Helpers.{Passed}
use Rattle.utf8.proofs.is_utf8.Given as goal

abbrev pub invariant-loop-i : goal.invariant-loop-i
invariant-loop-i l = Passed l.s 0 l.i

abbrev pub decreases-loop-i : goal.decreases-loop-i
decreases-loop-i l = length l.s - l.i
