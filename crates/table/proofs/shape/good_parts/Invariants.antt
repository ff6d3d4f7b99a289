-- `table::shape::good_parts`. The invariant: each part passed is good. Assumes nothing.
use mathlib.Core.Path.{◌≡◌}
use mathlib.Core.Bool.{Bool}
use lib.ListN.{drop}
use Rattle.basics.specs.Lists.{every}
use Rattle.table.specs.Table.{threes}
use Rattle.table.specs.Shape.{good_part, good_parts}
use Rattle.table.proofs.shape.good_parts.Given as goal

abbrev pub invariant-loop-i : goal.invariant-loop-i
invariant-loop-i l = good_parts l.parts ≡ every (λ (good : Bool). good) (drop l.i (threes good_part l.parts))
