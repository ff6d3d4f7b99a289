-- `table::check::all_masters`. The invariant: each ID passed is a Master. Assumes nothing.
use mathlib.Core.Path.{◌≡◌}
use lib.ListN.{drop}
use Rattle.basics.specs.Lists.{every}
use Rattle.table.specs.Table.{parts_of, parts_in, table_of}
use Rattle.table.specs.Check.{master_or_global, all_masters}
use Rattle.table.proofs.check.all_masters.Given as goal

abbrev pub invariant-loop-i : goal.invariant-loop-i
invariant-loop-i l =
    all_masters (table_of l.entries l.parts) (parts_in (parts_of l.parts) l.path)
    ≡ every (master_or_global (table_of l.entries l.parts)) (drop l.i (parts_in (parts_of l.parts) l.path))
