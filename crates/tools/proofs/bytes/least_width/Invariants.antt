-- `tools::bytes::least_width`. The invariant: no width passed holds m, so the least from here on is the least of all.
-- Assumes nothing.
use Prim.Native.Nat.{ℕ, ◌-◌, ◌*◌, ◌^◌}
use mathlib.Core.Path.{◌≡◌}
use mathlib.Core.Bool.{Bool}
use lib.Dec.{ltb}
use Rattle.tools.specs.Vint.{least_from, width_for}
use Rattle.tools.proofs.bytes.least_width.Given as goal

abbrev pub test : ℕ → ℕ → ℕ → Bool
test less m L = ltb m (2 ^ (7 * L - less))

abbrev pub invariant-loop-width : goal.invariant-loop-width
invariant-loop-width l = least_from (test l.less l.m) (8 - l.width) l.width ≡ width_for l.less l.m
