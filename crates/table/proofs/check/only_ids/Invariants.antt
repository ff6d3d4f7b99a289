-- `table::check::only_ids`. The invariant: each part passed is an ID. Assumes nothing.
use mathlib.Core.Path.{◌≡◌}
use lib.ListN.{drop}
use Rattle.basics.specs.Lists.{every}
use Rattle.table.specs.Table.{parts_of, parts_in}
use Rattle.table.specs.Check.{is_id, only_ids}
use Rattle.table.proofs.check.only_ids.Given as goal

abbrev pub invariant-loop-i : goal.invariant-loop-i
invariant-loop-i l = only_ids (parts_in (parts_of l.parts) l.path) ≡ every is_id (drop l.i (parts_in (parts_of l.parts) l.path))
