-- `tag_writer::widths::byte_width`. The invariant: no width passed holds m, so the least from here on is the least of
-- all. Assumes nothing.
use Prim.Native.Nat.{ℕ, ◌-◌, ◌*◌, ◌^◌, ◌≤◌}
use mathlib.Core.Path.{◌≡◌}
use mathlib.Core.Bool.{Bool}
use lib.Dec.{ltb}
use Rattle.tools.specs.Vint.{least_from}
use Rattle.tag_writer.proofs.widths.byte_width.Given as goal

abbrev pub test : ℕ → ℕ → ℕ → Bool
test less m k = ltb m (2 ^ (8 * k - less))

abbrev pub invariant-loop-width : goal.invariant-loop-width
invariant-loop-width l =
    (l.from ≤ l.width) × (l.width ≤ 8) × (least_from (test l.less l.m) (8 - l.width) l.width ≡ least_from (test l.less l.m) (8 - l.from) l.from)
