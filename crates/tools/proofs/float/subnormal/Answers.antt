-- `tools::float::subnormal`: the highest set bit is among the lowest 23, and is shifted to bit 52. Assumes nothing.
use mathlib.Core.Path.{refl}
use native.Mathlib.Omega.{arith}
use Rattle.tools.specs.Float.{subnormal_of}
use Rattle.tools.proofs.Widening.{top, shl_is}
use Rattle.tools.proofs.float.subnormal.Goals as goal

pub overflow_sub-result-2 : goal.overflow_sub-result-2
overflow_sub-result-2 c = let t = top c.args.fraction c.requires.0 c.requires.1 in omega arith

pub overflow_sub-result-3 : goal.overflow_sub-result-3
overflow_sub-result-3 c = let t = top c.args.fraction c.requires.0 c.requires.1 in rw (shl_is _ _ t.shifted_hi) t.shifted_lo

pub overflow_add-result-2 : goal.overflow_add-result-2
overflow_add-result-2 c = let t = top c.args.fraction c.requires.0 c.requires.1 in rw (shl_is _ _ t.shifted_hi) (omega arith)

pub returns : goal.returns
unfolding subnormal_of
returns c = let t = top c.args.fraction c.requires.0 c.requires.1 in rw (shl_is _ _ t.shifted_hi) (refl, omega arith)
