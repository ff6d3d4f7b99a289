-- `spec_util::walk::walk_global_strictly`: by the tests in their order. Assumes nothing.
use native.Mathlib.Omega.{arith}
use Rattle.table.proofs.Ranges.{length_path}
use Rattle.spec_util.specs.Walk.{walk_global_strictly}
use Rattle.spec_util.proofs.walk.walk_global_strictly.Goals as goal

pub returns-then-under_min : goal.returns-then-under_min
unfolding walk_global_strictly
returns-then-under_min c = rw (← c.is_id_at.ensures, c.if-is_id_at.true, ← c.under_min.ensures, c.if-under_min.true)

pub overflow_add-result : goal.overflow_add-result
overflow_add-result c = let a = c.args in omega (arith, length_path a.parts.now a.path)

pub returns-then-is_id_at : goal.returns-then-is_id_at
unfolding walk_global_strictly
returns-then-is_id_at c = rw (← c.is_id_at.ensures, c.if-is_id_at.true, ← c.under_min.ensures, c.if-under_min.false)

pub returns-then-over_max : goal.returns-then-over_max
unfolding walk_global_strictly
returns-then-over_max c = rw (← c.is_id_at.ensures, c.if-is_id_at.false, ← c.over_max.ensures, c.if-over_max.true)

pub returns : goal.returns
unfolding walk_global_strictly
returns c = rw (← c.is_id_at.ensures, c.if-is_id_at.false, ← c.over_max.ensures, c.if-over_max.false)
