-- `table::check::own_paths`. The invariant: each part passed is an ID whose own path is what stands before it. Assumes
-- nothing.
use mathlib.Core.Path.{◌≡◌}
use mathlib.Core.List.{[]}
use lib.ListN.{take, drop}
use Rattle.table.specs.Table.{parts_of, parts_in, table_of}
use Rattle.table.specs.Check.{own_paths}
use Rattle.table.proofs.check.own_paths.Given as goal

abbrev pub invariant-loop-i : goal.invariant-loop-i
invariant-loop-i l =
    own_paths (table_of l.entries l.parts) [] (parts_in (parts_of l.parts) l.path)
    ≡ own_paths (table_of l.entries l.parts) (take l.i (parts_in (parts_of l.parts) l.path)) (drop l.i (parts_in (parts_of l.parts) l.path))
