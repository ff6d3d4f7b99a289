-- One name for what a worked example of tests of lists and numbers computes with: a definition unfolds what its own line names, so
-- `unfolding lists_compute` opens all of it. Assumes nothing.
use Rattle.basics.specs.Lists.{every, any, first_index}
use Rattle.basics.specs.Least.{least_below}

unfoldable pub lists_compute : Unit {0}
unfolding every any first_index least_below
lists_compute = tt
