-- `table::shape::good_entries`. The invariant: each entry passed is good. Assumes nothing.
use Prim.Native.Nat.{ℕ}
use mathlib.Core.Path.{◌≡◌}
use mathlib.Core.Bool.{Bool}
use lib.ListN.{drop}
use Rattle.basics.specs.Lists.{every}
use Rattle.table.specs.Table.{fours}
use Rattle.table.specs.Shape.{good_entry, good_entries}
use Rattle.table.proofs.shape.good_entries.Given as goal

abbrev pub good : ℕ → ℕ → ℕ → ℕ → ℕ → Bool
good all id kind first count = good_entry all kind first count

abbrev pub invariant-loop-i : goal.invariant-loop-i
invariant-loop-i l = good_entries l.all l.entries ≡ every (λ (good : Bool). good) (drop l.i (fours (good l.all) l.entries))
