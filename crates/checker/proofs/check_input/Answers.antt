-- `checker::check_input` is safe and ends: the buffer has the length that it is lent with. Assumes nothing.
use Prim.Native.Nat.{ℕ}
use mathlib.Core.Path.{sym}
use lib.ListN.{length-replicate}
use Rattle.checker.proofs.check_input.Goals as goal

pub slice_bounds-check-end : goal.slice_bounds-check-end
slice_bounds-check-end c = sym (length-replicate {A = ℕ} 1048576 0)
