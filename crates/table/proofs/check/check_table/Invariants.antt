-- `table::check::check_table`. The invariant: each entry passed breaks no rule. Assumes nothing.
use Prim.Native.Nat.{◌-◌, ◌/◌}
use lib.ListN.{length}
use mathlib.Core.Path.{◌≡◌}
use Rattle.table.specs.Table.{table_of}
use Rattle.table.specs.Check.{check_from, check_table}
use Rattle.table.proofs.check.check_table.Given as goal

abbrev pub invariant-loop-i : goal.invariant-loop-i
invariant-loop-i l = check_table l.entries l.parts ≡ check_from (table_of l.entries l.parts) (length l.entries / 4 - l.i-counter) l.i-counter
