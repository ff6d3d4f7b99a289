-- One name for what a worked example of a table computes with: a definition unfolds what its own line names, so
-- `unfolding table_computes` opens all of it. Assumes nothing.
use Rattle.basics.proofs.Computing.{lists_compute}
use Rattle.tools.proofs.Computing.{numbers_compute}
use Rattle.table.specs.Table.{threes, fours, bound_of, part_of, path_ids, same_bound, same_part, same_path, kind_of, is_master, is_typed, clipped, entry_of, table_of, entry_for}
use Rattle.table.specs.Shape.{good_part, good_parts, good_entry, good_entries, good_shape}
use Rattle.table.specs.Check.{allowed_id, listed, only_ids, master_of_ids, master_or_global, all_masters, own_paths, keeps, first_broken, fault_or, check_from, check_table}

unfoldable pub table_computes : Unit {0}
unfolding lists_compute numbers_compute threes fours bound_of part_of path_ids same_bound same_part same_path kind_of is_master is_typed clipped entry_of table_of entry_for good_part good_parts good_entry good_entries good_shape allowed_id listed only_ids master_of_ids master_or_global all_masters own_paths keeps first_broken fault_or check_from check_table
table_computes = tt
