-- From i to `at` there are whole characters.
use Rattle.std.proofs.Common.{◌-◌, length}
use Rattle.utf8.specs.Helpers.{Passed}
use Rattle.utf8.proofs.past_runs.Given as goal

abbrev pub invariant-loop-at : goal.invariant-loop-at
invariant-loop-at l = Passed l.s l.i l.at

abbrev pub decreases-loop-at : goal.decreases-loop-at
decreases-loop-at l = length l.s - l.at
